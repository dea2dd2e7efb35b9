use Rattle.std.proofs.Common.{refl, ◌∙◌}
use Rattle.mvt_attrs.proofs.UsesLemmas.{all_used}
use Rattle.mvt_attrs.proofs.used_entries.UsedEntries.new.Goals as goal

pub returns-clause-used : goal.returns-clause-used
returns-clause-used g c = all_used _ refl c.new-2.ensures.items ∙ c.new.ensures
