use Rattle.mvt_message.specs.declared.item.Item.TheVariants.{Layer}
use Rattle.mvt_tile_value.proofs.ModelLaws.{long_items}
use Rattle.mvt_rows.proofs.writing.add_payload.Goals as goal

pub returns-in-None : goal.returns-in-None
returns-in-None c = λ items layer encoded payload. long_items items (Layer layer) (rw c.in-None.is at payload)
