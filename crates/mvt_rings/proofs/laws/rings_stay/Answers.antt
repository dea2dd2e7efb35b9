use Rattle.mvt_rings.proofs.RingLaws.{rings_stay}
use Rattle.mvt_rings.proofs.laws.rings_stay.Goals as goal

pub returns : goal.returns
returns c = rings_stay
