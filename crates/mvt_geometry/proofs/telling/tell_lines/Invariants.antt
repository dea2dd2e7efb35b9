use Rattle.std.proofs.Common.{[], map, take}
use Rattle.mvt_geometry.specs.Visiting.{plain}
use Rattle.mvt_geometry.proofs.telling.tell_lines.Given as goal

abbrev pub invariant-loop-line : goal.invariant-loop-line
invariant-loop-line g l =
    (start : g.row.V.Denot) → g.V.GeometryVisitor.has_parts start [] [] l.initial.visitor
    → g.V.GeometryVisitor.has_parts start (map plain (take l.line-index l.lines)) [] l.visitor
