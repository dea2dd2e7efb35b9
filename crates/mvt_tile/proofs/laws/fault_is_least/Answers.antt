use Rattle.mvt_tile.proofs.TileLaws.{fault_is_least_ordered, fault_is_least_least}
use Rattle.mvt_tile.proofs.laws.fault_is_least.Goals as goal

pub returns-clause-ordered : goal.returns-clause-ordered
returns-clause-ordered c = fault_is_least_ordered

pub returns-clause-least : goal.returns-clause-least
returns-clause-least c = fault_is_least_least
