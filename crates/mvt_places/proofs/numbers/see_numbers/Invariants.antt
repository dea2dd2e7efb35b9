use Rattle.std.proofs.Common.{◌-◌}
use Rattle.mvt_places.proofs.SpanLemmas.{Reading}
use Rattle.mvt_places.proofs.numbers.see_numbers.Given as goal

abbrev pub invariant-loop : goal.invariant-loop
invariant-loop l = Reading l.fn.before l.most l.at l.bytes l.seen (l.most - l.counter) l.place l.rest
