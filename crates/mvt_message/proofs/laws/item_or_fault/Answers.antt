use Rattle.mvt_message.proofs.MessageLaws.{item_or_fault_there, item_or_fault_clean}
use Rattle.mvt_message.proofs.laws.item_or_fault.Goals as goal

pub returns-clause-there : goal.returns-clause-there
returns-clause-there c = item_or_fault_there

pub returns-clause-clean : goal.returns-clause-clean
returns-clause-clean c = item_or_fault_clean
