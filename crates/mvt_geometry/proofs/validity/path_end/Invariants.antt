use Rattle.std.proofs.Common.{◌≡◌, drop}
use Rattle.mvt_geometry.specs.Inner.Validity.{IsPath}
use Rattle.mvt_geometry.proofs.validity.path_end.Given as goal
use Rattle.mvt_geometry.specs.Shape.{last_of}

abbrev pub invariant-loop-point : goal.invariant-loop-point
invariant-loop-point l =
    (IsPath l.is_line l.initial.cursor l.points → IsPath l.is_line l.cursor (drop l.point-index l.points))
    × (IsPath l.is_line l.cursor (drop l.point-index l.points) → IsPath l.is_line l.initial.cursor l.points)
    × (last_of l.cursor (drop l.point-index l.points) ≡ last_of l.initial.cursor l.points)
