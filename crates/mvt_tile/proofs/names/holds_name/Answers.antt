use Rattle.std.proofs.Common.{◌∙◌}
use Rattle.mvt_tile.proofs.NameLemmas.{any_text}
use Rattle.mvt_tile.proofs.names.holds_name.Goals as goal

pub returns : goal.returns
returns c = c.contains.ensures ∙ any_text c.args.name.now c.args.names.now.keys
