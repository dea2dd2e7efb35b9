use Rattle.mvt_message.proofs.MessageLaws.{item_names}
use Rattle.mvt_message.proofs.laws.item_names.Goals as goal

pub returns : goal.returns
returns c = item_names
