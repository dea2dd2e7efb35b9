use Rattle.mvt_feature.proofs.FeatureLaws.{feature_fault_is_least_ordered, feature_fault_is_least_least}
use Rattle.mvt_feature.proofs.laws.feature_fault_is_least.Goals as goal

pub returns : goal.returns
returns c = record { ordered = feature_fault_is_least_ordered; least = feature_fault_is_least_least }
