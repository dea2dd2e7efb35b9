use Rattle.std.proofs.Common.{◌≡◌, ◌+◌, ◌%◌, ◌-◌, ◌≤◌, ℕ, List, [], ◌∷◌, length}
use Rattle.mvt_geometry.specs.declared.shape.Point.{Point}
use Rattle.mvt_geometry.specs.declared.shape.Kind.TheVariants as kinds
use Rattle.mvt_geometry.specs.Shape.{origin}
use Rattle.mvt_geometry.specs.Inner.Judging.{Reached}
use Rattle.mvt_geometry.specs.Inner.Grouping.{polygons_of}
use Rattle.mvt_geometry.proofs.CountLemmas.{Left, polygons_left}
use Rattle.mvt_geometry.proofs.judging.judge_polygons.Given as goal

abbrev pub invariant-loop-pen : goal.invariant-loop-pen
invariant-loop-pen l =
    ((k : ℕ) × (k % 3 ≡ 0) × Reached kinds.Polygon l.integers k l.pen.at l.pen.cursor)
    × (l.polygons ≤ l.pen.at)
    ×
    ((rings : List (List Point)) → Left 3 (15 ∷ []) l.integers 0 origin rings
    → (rest : List (List Point)) × Left 3 (15 ∷ []) l.integers l.pen.at l.pen.cursor rest
    × (l.polygons + polygons_left l.polygons rest ≡ length (polygons_of rings)))

abbrev pub decreases-loop-pen : goal.decreases-loop-pen
decreases-loop-pen l = length l.integers - l.pen.at
