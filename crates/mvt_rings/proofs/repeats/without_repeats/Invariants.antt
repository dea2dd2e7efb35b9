use Rattle.std.proofs.Common.{◌≡◌, ◌++◌, drop}
use Rattle.mvt_rings.specs.Repeats.{others_after}
use Rattle.mvt_rings.proofs.repeats.without_repeats.Given as goal

abbrev pub invariant-loop-point : goal.invariant-loop-point
invariant-loop-point l =
    l.kept.items ++ others_after l.before (drop l.point-index l.others) ≡ l.initial.kept.items ++ others_after l.initial.before l.others
