use Rattle.mvt_message.proofs.MessageLaws.{read_items_are_valid}
use Rattle.mvt_message.proofs.laws.read_items_are_valid.Goals as goal

pub returns : goal.returns
returns c = read_items_are_valid
