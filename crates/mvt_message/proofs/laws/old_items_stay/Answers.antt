use Rattle.mvt_message.proofs.MessageLaws.{old_items_stay}
use Rattle.mvt_message.proofs.laws.old_items_stay.Goals as goal

pub returns : goal.returns
returns c = old_items_stay
