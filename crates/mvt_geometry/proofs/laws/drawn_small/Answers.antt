use Rattle.mvt_geometry.proofs.GeometryLaws.{drawn_small}
use Rattle.mvt_geometry.proofs.laws.drawn_small.Goals as goal

pub returns : goal.returns
returns c = drawn_small
