use Rattle.mvt_message.proofs.MessageLaws.{one_item}
use Rattle.mvt_message.proofs.laws.one_item.Goals as goal

pub returns : goal.returns
returns c = one_item
