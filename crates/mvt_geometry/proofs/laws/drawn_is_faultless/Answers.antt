use Rattle.mvt_geometry.proofs.GeometryLaws.{drawn_is_faultless}
use Rattle.mvt_geometry.proofs.laws.drawn_is_faultless.Goals as goal

pub returns : goal.returns
returns c = drawn_is_faultless
