use Rattle.mvt_rings.proofs.RingLaws.{rings_are_long}
use Rattle.mvt_rings.proofs.laws.rings_are_long.Goals as goal

pub returns : goal.returns
returns c = rings_are_long
