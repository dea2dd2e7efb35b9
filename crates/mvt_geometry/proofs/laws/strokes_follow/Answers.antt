use Rattle.mvt_geometry.proofs.GeometryLaws.{strokes_follow}
use Rattle.mvt_geometry.proofs.laws.strokes_follow.Goals as goal

pub returns : goal.returns
returns c = strokes_follow
