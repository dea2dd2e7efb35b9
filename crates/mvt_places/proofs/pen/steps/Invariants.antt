use Rattle.std.proofs.Common.{◌≡◌, ◌++◌, drop}
use Rattle.mvt_places.specs.Pens.{drawn_steps, steps_after}
use Rattle.mvt_places.proofs.pen.steps.Given as goal

abbrev pub invariant-loop-integer : goal.invariant-loop-integer
invariant-loop-integer l = l.steps.items ++ steps_after l.last (drop l.integer-index l.integers) ≡ drawn_steps l.integers
