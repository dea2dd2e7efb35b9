use Rattle.mvt_places.specs.declared.message.Form.TheVariants.{Bytes}
use Rattle.mvt_places.specs.Messages.{has_byte}
use Rattle.mvt_places.proofs.MessageLemmas.{Holding}
use Rattle.mvt_places.proofs.message.holding_field.Given as goal

abbrev pub invariant-loop-field : goal.invariant-loop-field
invariant-loop-field l = Holding Bytes l.number l.payload (has_byte l.at) l.field-iterator.to_come
