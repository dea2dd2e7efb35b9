use Rattle.mvt_places.specs.Messages.{message_of}
use Rattle.mvt_places.proofs.AroundLemmas.{Collecting}
use Rattle.mvt_places.proofs.integers.integers_of.Given as goal

abbrev pub invariant-loop-field : goal.invariant-loop-field
invariant-loop-field l = Collecting (message_of l.message) l.number l.integers.items l.field-iterator.to_come
