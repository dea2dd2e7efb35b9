use Rattle.mvt_feature.proofs.FeatureLaws.{value_function}
use Rattle.mvt_feature.proofs.laws.value_function.Goals as goal

pub returns : goal.returns
returns c = value_function
