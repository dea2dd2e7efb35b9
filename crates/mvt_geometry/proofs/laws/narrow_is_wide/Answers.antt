use Rattle.mvt_geometry.proofs.GeometryLaws.{narrow_is_wide}
use Rattle.mvt_geometry.proofs.laws.narrow_is_wide.Goals as goal

pub returns : goal.returns
returns c = narrow_is_wide
