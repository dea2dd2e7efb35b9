use Rattle.std.proofs.Common.{[], take}
use Rattle.std.specs.List.{flat_map}
use Rattle.mvt_geometry.specs.Visiting.{ring_parts}
use Rattle.mvt_geometry.proofs.telling.tell_polygons.Given as goal

abbrev pub invariant-loop-polygon : goal.invariant-loop-polygon
invariant-loop-polygon g l =
    (start : g.row.V.Denot) → g.V.GeometryVisitor.has_parts start [] [] l.initial.visitor
    → g.V.GeometryVisitor.has_parts start (flat_map ring_parts (take l.polygon-index l.polygons)) [] l.visitor
