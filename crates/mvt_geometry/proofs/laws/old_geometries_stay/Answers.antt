use Rattle.mvt_geometry.proofs.GeometryLaws.{old_geometries_stay}
use Rattle.mvt_geometry.proofs.laws.old_geometries_stay.Goals as goal

pub returns : goal.returns
returns c = old_geometries_stay
