use Rattle.mvt_message.proofs.MessageLaws.{pools_of_features_keys, pools_of_features_values, pools_of_features_held}
use Rattle.mvt_message.proofs.laws.pools_of_features.Goals as goal

pub returns : goal.returns
returns c = record { keys = pools_of_features_keys; values = pools_of_features_values; held = pools_of_features_held }
