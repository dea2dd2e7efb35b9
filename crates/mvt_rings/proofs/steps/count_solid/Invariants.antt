use Rattle.std.proofs.Common.{◌≡◌, ◌+◌, ◌≤◌, drop}
use Rattle.mvt_rings.specs.Steps.{count_solid}
use Rattle.mvt_rings.proofs.steps.count_solid.Given as goal

abbrev pub invariant-loop-ring : goal.invariant-loop-ring
invariant-loop-ring l = record {
  few : l.count ≤ l.ring-index;
  same : l.count + count_solid (drop l.ring-index l.rings) ≡ count_solid l.rings;
}
