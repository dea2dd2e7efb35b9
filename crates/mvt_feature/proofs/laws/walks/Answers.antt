use Rattle.mvt_feature.proofs.FeatureLaws.{walks_start, walks_step, walks_fits, walks_end, walks_fault_fits, walks_fault}
use Rattle.mvt_feature.proofs.laws.walks.Goals as goal

pub returns-clause-start : goal.returns-clause-start
returns-clause-start c = walks_start

pub returns-clause-step : goal.returns-clause-step
returns-clause-step c = walks_step

pub returns-clause-fits : goal.returns-clause-fits
returns-clause-fits c = walks_fits

pub returns-clause-end : goal.returns-clause-end
returns-clause-end c = walks_end

pub returns-clause-fault_fits : goal.returns-clause-fault_fits
returns-clause-fault_fits c = walks_fault_fits

pub returns-clause-fault : goal.returns-clause-fault
returns-clause-fault c = walks_fault
