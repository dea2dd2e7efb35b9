use Rattle.std.proofs.Common.{◌≡◌, drop}
use Rattle.mvt_rings.specs.Repeats.{others_after}
use Rattle.mvt_rings.proofs.repeats.are_apart.Given as goal

abbrev pub invariant-loop-point : goal.invariant-loop-point
invariant-loop-point l =
    others_after l.before (drop l.point-index l.others) ≡ drop l.point-index l.others
    → others_after l.initial.before l.others ≡ l.others
