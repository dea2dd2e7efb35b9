use Rattle.std.specs.Option.{option_map}
use Rattle.mvt_wire.specs.Field.{entry_of}
use Rattle.mvt_places.proofs.MessageLemmas.{Lasting}
use Rattle.mvt_places.proofs.message.last_field.Given as goal

abbrev pub invariant-loop-field : goal.invariant-loop-field
invariant-loop-field l = Lasting l.form l.number l.payload (option_map entry_of l.last) l.field-iterator.to_come
