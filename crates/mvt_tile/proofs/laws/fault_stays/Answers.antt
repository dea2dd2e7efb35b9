use Rattle.mvt_tile.proofs.TileLaws.{fault_stays}
use Rattle.mvt_tile.proofs.laws.fault_stays.Goals as goal

pub returns : goal.returns
returns c = fault_stays
