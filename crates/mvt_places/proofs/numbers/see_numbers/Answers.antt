use Rattle.std.proofs.Common.{arith}
use Rattle.mvt_places.proofs.SpanLemmas.{reading_more, reading_none, reading_ends}
use Rattle.mvt_places.proofs.numbers.see_numbers.Goals as goal

pub loop-preserved : goal.loop-preserved
loop-preserved c =
    reading_more _ _ _ _ _ _ _ _ c.loop.invariant _ _ c.in-Ok.field-0-0 c.in-Ok.size c.with-seen.ensures (omega arith)
    c.in-Ok.ensures.within c.in-Ok.ensures.number

pub returns-in_default-clause-seen : goal.returns-in_default-clause-seen
returns-in_default-clause-seen c = reading_none _ _ _ _ _ _ _ _ c.loop.invariant c.in_default.ensures.none

pub returns-clause-seen : goal.returns-clause-seen
returns-clause-seen c = reading_ends _ _ _ _ _ _ _ _ c.loop.invariant (omega arith)
