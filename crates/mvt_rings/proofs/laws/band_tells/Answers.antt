use Rattle.mvt_rings.proofs.RingLaws.{band_tells}
use Rattle.mvt_rings.proofs.laws.band_tells.Goals as goal

pub returns : goal.returns
returns c = band_tells
