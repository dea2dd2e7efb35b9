use Rattle.mvt_attrs.proofs.AttrsLaws.{tags_stay}
use Rattle.mvt_attrs.proofs.laws.tags_stay.Goals as goal

pub returns : goal.returns
returns c = tags_stay
