use Rattle.std.proofs.Common.{◌≡◌, ◌+◌, drop}
use Rattle.mvt_rings.specs.Steps.{steps_over}
use Rattle.mvt_rings.proofs.steps.spend_over.Given as goal

abbrev pub invariant-loop-ring : goal.invariant-loop-ring
invariant-loop-ring l = l.rest + steps_over l.all l.rings ≡ l.left + steps_over l.all (drop l.ring-index l.rings)
