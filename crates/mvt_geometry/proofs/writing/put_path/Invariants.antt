use Rattle.std.proofs.Common.{◌≡◌, ◌++◌, drop}
use Rattle.mvt_base.specs.Related.{Extends}
use Rattle.mvt_geometry.specs.Shape.{AreSteps, last_of}
use Rattle.mvt_geometry.specs.Drawing.{path_from}
use Rattle.mvt_geometry.proofs.writing.put_path.Given as goal

abbrev pub invariant-loop-point : goal.invariant-loop-point
invariant-loop-point g l =
    ((g.N.NumberList.numbers l.integers) ++ path_from l.cursor (drop l.point-index l.points)
    ≡ (g.N.NumberList.numbers l.initial.integers) ++ path_from l.initial.cursor l.points)
    × (last_of l.cursor (drop l.point-index l.points) ≡ last_of l.initial.cursor l.points) × AreSteps l.cursor (drop l.point-index l.points)
    × Extends (g.N.NumberList.numbers l.initial.integers) (g.N.NumberList.numbers l.integers)
