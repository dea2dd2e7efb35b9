use Rattle.std.proofs.Common.{◌≡◌, ◌++◌, drop}
use Rattle.mvt_geometry.specs.Shape.{last_of}
use Rattle.mvt_geometry.specs.Drawing.{path_from}
use Rattle.mvt_mend.specs.Drawing.{are_near}
use Rattle.mvt_mend.proofs.drawing.write_path.Given as goal

abbrev pub invariant-loop-point : goal.invariant-loop-point
invariant-loop-point l = record {
  near : are_near l.cursor (drop l.point-index l.points) ≡ are_near l.initial.cursor l.points;
  last : last_of l.cursor (drop l.point-index l.points) ≡ last_of l.initial.cursor l.points;
  drawn : l.integers.items ++ path_from l.cursor (drop l.point-index l.points)
      ≡ l.initial.integers.items ++ path_from l.initial.cursor l.points;
}
