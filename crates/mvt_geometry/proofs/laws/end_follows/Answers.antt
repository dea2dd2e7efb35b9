use Rattle.mvt_geometry.proofs.GeometryLaws.{end_follows}
use Rattle.mvt_geometry.proofs.laws.end_follows.Goals as goal

pub returns : goal.returns
returns c = end_follows
