use Rattle.std.proofs.Common.{◌≡◌, ◌+◌, ◌*◌, ◌≤◌, drop}
use Rattle.mvt_rings.specs.Placing.{marks_on}
use Rattle.mvt_rings.proofs.placing.marks_on.Given as goal

abbrev pub invariant-loop-edge : goal.invariant-loop-edge
invariant-loop-edge l = record {
  few : l.count ≤ 2 * l.edge-index;
  same : l.count + marks_on l.inside l.edges (drop l.edge-index l.marks) ≡ marks_on l.inside l.edges l.marks;
}
