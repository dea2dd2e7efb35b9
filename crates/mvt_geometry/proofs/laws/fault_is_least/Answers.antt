use Rattle.mvt_geometry.proofs.GeometryLaws.{fault_is_least}
use Rattle.mvt_geometry.proofs.laws.fault_is_least.Goals as goal

pub returns : goal.returns
returns c = fault_is_least
