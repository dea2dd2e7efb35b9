use Rattle.mvt_places.specs.declared.message.Form.TheVariants.{Bytes}
use Rattle.mvt_places.proofs.MessageLemmas.{Seeking}
use Rattle.mvt_places.proofs.message.nth_field.Given as goal

abbrev pub invariant-loop-field : goal.invariant-loop-field
invariant-loop-field l = Seeking Bytes l.number l.payload l.index l.left l.field-iterator.to_come
