use Rattle.mvt_attrs.proofs.AttrsLaws.{uses_by_what_is_used}
use Rattle.mvt_attrs.proofs.laws.uses_by_what_is_used.Goals as goal

pub returns : goal.returns
returns c = uses_by_what_is_used
