use Rattle.std.proofs.Common.{◌≡◌, ◌+◌, drop}
use Rattle.mvt_rings.specs.Steps.{steps_for}
use Rattle.mvt_rings.proofs.steps.spend_for.Given as goal

abbrev pub invariant-loop-outer : goal.invariant-loop-outer
invariant-loop-outer l =
    l.rest + steps_for l.ring l.rings ≡ l.left + steps_for l.ring (drop l.outer-index l.rings)
