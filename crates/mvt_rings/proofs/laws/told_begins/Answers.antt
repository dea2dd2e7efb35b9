use Rattle.mvt_rings.proofs.RingLaws.{told_begins}
use Rattle.mvt_rings.proofs.laws.told_begins.Goals as goal

pub returns : goal.returns
returns c = told_begins
