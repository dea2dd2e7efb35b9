use Rattle.std.proofs.Common.{◌≡◌, drop}
use Rattle.mvt_rings.specs.Boxes.{bounds_with}
use Rattle.mvt_rings.proofs.boxes.bounds_of.Given as goal

abbrev pub invariant-loop-point : goal.invariant-loop-point
invariant-loop-point l = bounds_with l.bounds (drop l.point-index l.others) ≡ bounds_with l.initial.bounds l.others
