use Rattle.std.proofs.Common.{arith}
use Rattle.mvt_places.proofs.AroundLemmas.{spelling_more, spelling_none}
use Rattle.mvt_places.proofs.integers.push_integers.Goals as goal

pub loop-preserved : goal.loop-preserved
loop-preserved c =
    spelling_more _ _ _ _ _ _ _ _ c.loop.invariant _ _ c.in-Ok.value c.in-Ok.size c.in_ok-push.ensures.items (omega arith)
    c.in-Ok.ensures.within c.in-Ok.ensures.number

pub returns-in_default : goal.returns-in_default
returns-in_default c = spelling_none _ _ _ _ _ _ _ _ c.loop.invariant c.in_default.ensures.none
