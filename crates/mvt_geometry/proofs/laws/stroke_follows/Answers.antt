use Rattle.mvt_geometry.proofs.GeometryLaws.{stroke_follows}
use Rattle.mvt_geometry.proofs.laws.stroke_follows.Goals as goal

pub returns : goal.returns
returns c = stroke_follows
