use Rattle.std.proofs.Common.{◌≡◌, ◌≤◌, ◌+◌, ℕ, List}
use Rattle.mvt_geometry.specs.declared.shape.Point.{Point}
use Rattle.mvt_geometry.specs.Inner.Telling.{WasTold, ArePairs}
use Rattle.mvt_geometry.proofs.packed.tell_path.Given as goal

abbrev pub invariant-loop-left : goal.invariant-loop-left
invariant-loop-left g l =
    (points : List Point) × (done : ℕ) × (done + l.left ≡ l.count) × (g.I.Integers.size l.rest ≤ g.I.Integers.size l.fn.integers)
    × ArePairs g.I.Integers.are l.is_line l.fn.from l.fn.integers l.rest done l.cursor l.area points
    × WasTold g.V.GeometryVisitor.has_parts l.initial.visitor points l.visitor

abbrev pub decreases-loop-left : goal.decreases-loop-left
decreases-loop-left g l = l.left
