use Rattle.std.proofs.Common.{[], List, take}
use Rattle.mvt_geometry.specs.Visiting.{Part}
use Rattle.mvt_geometry.proofs.telling.tell_part.Given as goal

abbrev pub invariant-loop-point : goal.invariant-loop-point
invariant-loop-point g l =
    (start : g.row.V.Denot) (parts : List Part) → g.V.GeometryVisitor.has_parts start parts [] l.initial.visitor
    → g.V.GeometryVisitor.has_parts start parts (take l.point-index l.points) l.visitor
