use Rattle.mvt_rings.proofs.RingLaws.{turned_area}
use Rattle.mvt_rings.proofs.laws.turned_area.Goals as goal

pub returns : goal.returns
returns c = turned_area
