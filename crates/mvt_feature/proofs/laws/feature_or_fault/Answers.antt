use Rattle.mvt_feature.proofs.FeatureLaws.{feature_or_fault_there, feature_or_fault_clean, feature_or_fault_once}
use Rattle.mvt_feature.proofs.laws.feature_or_fault.Goals as goal

pub returns : goal.returns
returns c = record { there = feature_or_fault_there; clean = feature_or_fault_clean; once = feature_or_fault_once }
