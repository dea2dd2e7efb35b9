use Rattle.std.proofs.Common.{◌≡◌, ◌+◌, ◌*◌, ◌^◌, ◌≤◌, drop}
use Rattle.mvt_rings.specs.Nesting.{edges_from}
use Rattle.mvt_rings.specs.Placing.{length_of}
use Rattle.mvt_rings.proofs.placing.length_of.Given as goal

abbrev pub invariant-loop-to : goal.invariant-loop-to
invariant-loop-to l = record {
  few : l.length ≤ 2 ^ 32 * l.to-index;
  same : l.length + length_of (edges_from l.from (drop l.to-index l.ring)) ≡ length_of (edges_from l.initial.from l.ring);
}
