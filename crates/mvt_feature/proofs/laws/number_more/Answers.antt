use Rattle.mvt_feature.proofs.FeatureLaws.{number_more}
use Rattle.mvt_feature.proofs.laws.number_more.Goals as goal

pub returns : goal.returns
returns c = number_more
