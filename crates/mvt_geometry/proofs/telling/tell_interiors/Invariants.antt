use Rattle.std.proofs.Common.{[], ◌++◌, List, false, map, take}
use Rattle.mvt_geometry.specs.Visiting.{Part, ring_part}
use Rattle.mvt_geometry.proofs.telling.tell_interiors.Given as goal

abbrev pub invariant-loop-ring : goal.invariant-loop-ring
invariant-loop-ring g l =
    (start : g.row.V.Denot) (parts : List Part) → g.V.GeometryVisitor.has_parts start parts [] l.initial.visitor
    → g.V.GeometryVisitor.has_parts start (parts ++ map (ring_part false) (take l.ring-index l.rings)) [] l.visitor
