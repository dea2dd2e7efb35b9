use Rattle.mvt_feature.proofs.FeatureLaws.{value_fault_is_least_ordered, value_fault_is_least_least}
use Rattle.mvt_feature.proofs.laws.value_fault_is_least.Goals as goal

pub returns-clause-ordered : goal.returns-clause-ordered
returns-clause-ordered c = value_fault_is_least_ordered

pub returns-clause-least : goal.returns-clause-least
returns-clause-least c = value_fault_is_least_least
