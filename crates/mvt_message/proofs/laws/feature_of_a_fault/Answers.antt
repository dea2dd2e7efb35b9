use Rattle.mvt_message.proofs.MessageLaws.{feature_of_a_fault}
use Rattle.mvt_message.proofs.laws.feature_of_a_fault.Goals as goal

pub returns : goal.returns
returns c = feature_of_a_fault
