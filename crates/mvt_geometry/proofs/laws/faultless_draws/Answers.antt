use Rattle.mvt_geometry.proofs.GeometryLaws.{faultless_draws}
use Rattle.mvt_geometry.proofs.laws.faultless_draws.Goals as goal

pub returns : goal.returns
returns c = faultless_draws
