use Rattle.std.proofs.Common.{◌≡◌, ◌+◌, ◌≤◌, length, drop}
use Rattle.mvt_rings.specs.Repeats.{others_after}
use Rattle.mvt_rings.proofs.repeats.is_long.Given as goal

abbrev pub invariant-loop-point : goal.invariant-loop-point
invariant-loop-point l = record {
  few : l.count ≤ l.point-index + 1;
  same : l.count + length (others_after l.before (drop l.point-index l.others))
      ≡ 1 + length (others_after l.initial.before l.others);
}
