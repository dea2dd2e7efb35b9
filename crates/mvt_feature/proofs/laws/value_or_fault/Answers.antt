use Rattle.mvt_feature.proofs.FeatureLaws.{value_or_fault_there, value_or_fault_clean, value_or_fault_once}
use Rattle.mvt_feature.proofs.laws.value_or_fault.Goals as goal

pub returns-clause-there : goal.returns-clause-there
returns-clause-there c = value_or_fault_there

pub returns-clause-clean : goal.returns-clause-clean
returns-clause-clean c = value_or_fault_clean

pub returns-clause-once : goal.returns-clause-once
returns-clause-once c = value_or_fault_once
