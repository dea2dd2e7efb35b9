use Rattle.mvt_places.specs.Messages.{message_of}
use Rattle.mvt_places.proofs.SpanLemmas.{Joining}
use Rattle.mvt_places.proofs.numbers.see_joined.Given as goal

abbrev pub invariant-loop-field : goal.invariant-loop-field
invariant-loop-field l = Joining (message_of l.message) l.number l.index l.seen l.field-iterator.to_come
