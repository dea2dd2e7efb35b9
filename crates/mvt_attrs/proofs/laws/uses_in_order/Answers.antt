use Rattle.mvt_attrs.proofs.AttrsLaws.{uses_in_order}
use Rattle.mvt_attrs.proofs.laws.uses_in_order.Goals as goal

pub returns : goal.returns
returns c = uses_in_order
