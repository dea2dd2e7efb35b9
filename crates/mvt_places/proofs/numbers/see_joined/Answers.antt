use Rattle.mvt_places.proofs.SpanLemmas.{joined_wanted, joined_last}
use Rattle.mvt_places.proofs.numbers.see_joined.Goals as goal

pub returns-in_default-clause-wanted : goal.returns-in_default-clause-wanted
returns-in_default-clause-wanted c =
    joined_wanted _ _ _ _ _ c.loop-field.invariant (rw c.in_default.is at c.in-Some.ensures.steps).0.0

pub returns-in_default-clause-last : goal.returns-in_default-clause-last
returns-in_default-clause-last c =
    joined_last _ _ _ _ _ c.loop-field.invariant (rw c.in_default.is at c.in-Some.ensures.steps).0.0

pub returns-clause-wanted : goal.returns-clause-wanted
returns-clause-wanted c = joined_wanted _ _ _ _ _ c.loop-field.invariant c.in-None.ensures.steps.0.0

pub returns-clause-last : goal.returns-clause-last
returns-clause-last c = joined_last _ _ _ _ _ c.loop-field.invariant c.in-None.ensures.steps.0.0
