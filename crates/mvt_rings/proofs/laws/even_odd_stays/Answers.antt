use Rattle.mvt_rings.proofs.RingLaws.{even_odd_stays}
use Rattle.mvt_rings.proofs.laws.even_odd_stays.Goals as goal

pub returns : goal.returns
returns c = even_odd_stays
