use Rattle.std.proofs.Common.{◌-◌}
use Rattle.mvt_places.proofs.AroundLemmas.{Spelling}
use Rattle.mvt_places.proofs.integers.push_integers.Given as goal

abbrev pub invariant-loop : goal.invariant-loop
invariant-loop l =
    Spelling l.initial.integers.items l.most l.at l.bytes l.integers.items (l.most - l.counter) l.place l.rest
