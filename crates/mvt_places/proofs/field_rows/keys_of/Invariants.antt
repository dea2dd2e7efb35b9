use Rattle.mvt_places.specs.Messages.{message_of}
use Rattle.mvt_places.proofs.AroundLemmas.{Keying}
use Rattle.mvt_places.proofs.field_rows.keys_of.Given as goal

abbrev pub invariant-loop-field : goal.invariant-loop-field
invariant-loop-field l = Keying (message_of l.layer) l.keys.items l.field-iterator.to_come
