use Rattle.mvt_feature.proofs.FeatureLaws.{rests_none, rests_nothing, rests_ordered}
use Rattle.mvt_feature.proofs.laws.rests.Goals as goal

pub returns-clause-none : goal.returns-clause-none
returns-clause-none c = rests_none

pub returns-clause-nothing : goal.returns-clause-nothing
returns-clause-nothing c = rests_nothing

pub returns-clause-ordered : goal.returns-clause-ordered
returns-clause-ordered c = rests_ordered
