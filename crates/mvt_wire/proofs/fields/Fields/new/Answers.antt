use Rattle.std.proofs.Common.{◌∙◌, zero-add}
use Rattle.mvt_wire.proofs.SplitLemmas.{split_place}
use Rattle.mvt_wire.proofs.fields.Fields.new.Goals as goal

pub returns-clause-place : goal.returns-clause-place
returns-clause-place c = split_place 0 c.args.source.now ∙ zero-add _
