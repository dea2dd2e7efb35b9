use Rattle.mvt_rings.proofs.RingLaws.{rings_come_from_rings_once, rings_come_from_rings_origin}
use Rattle.mvt_rings.proofs.laws.rings_come_from_rings.Goals as goal

pub returns-clause-origin : goal.returns-clause-origin
returns-clause-origin c = rings_come_from_rings_origin

pub returns-clause-once : goal.returns-clause-once
returns-clause-once c = rings_come_from_rings_once
