use Rattle.mvt_geometry.proofs.GeometryLaws.{geometry_ordered}
use Rattle.mvt_geometry.proofs.laws.geometry_ordered.Goals as goal

pub returns : goal.returns
returns c = geometry_ordered
