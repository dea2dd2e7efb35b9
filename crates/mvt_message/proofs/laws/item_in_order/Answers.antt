use Rattle.mvt_message.proofs.MessageLaws.{item_in_order_fault, item_in_order_ordered}
use Rattle.mvt_message.proofs.laws.item_in_order.Goals as goal

pub returns-clause-fault : goal.returns-clause-fault
returns-clause-fault c = item_in_order_fault

pub returns-clause-ordered : goal.returns-clause-ordered
returns-clause-ordered c = item_in_order_ordered
