use Rattle.std.proofs.Common.{◌≡◌, ◌++◌, [], ◌∷◌, drop}
use Rattle.mvt_base.specs.Related.{Extends}
use Rattle.mvt_geometry.specs.Shape.{AreSteps, joined, rings_of}
use Rattle.mvt_geometry.specs.Inner.Writing.{AreShort}
use Rattle.mvt_geometry.proofs.writing.put_polygons.Given as goal
use Rattle.mvt_geometry.specs.Drawing.{strokes}

abbrev pub invariant-loop-polygon : goal.invariant-loop-polygon
invariant-loop-polygon g l =
    ((g.N.NumberList.numbers l.integers) ++ strokes (15 ∷ []) l.cursor (rings_of (drop l.polygon-index l.polygons))
    ≡ (g.N.NumberList.numbers l.initial.integers) ++ strokes (15 ∷ []) l.initial.cursor (rings_of l.polygons))
    × AreSteps l.cursor (joined (rings_of (drop l.polygon-index l.polygons))) × AreShort (rings_of (drop l.polygon-index l.polygons))
    × Extends (g.N.NumberList.numbers l.initial.integers) (g.N.NumberList.numbers l.integers)
