use Rattle.std.proofs.Common.{List, [], map}
use Rattle.mvt_geometry.specs.declared.shape.Point.{Point}
use Rattle.mvt_geometry.specs.Visiting.{plain}
use Rattle.mvt_geometry.specs.Inner.Telling.{AreInFront}
use Rattle.mvt_geometry.proofs.packed.tell_lines.Given as goal

abbrev pub invariant-loop-cursor : goal.invariant-loop-cursor
invariant-loop-cursor g l =
    (lines : List (List Point)) × AreInFront g.I.Integers.are g.I.Integers.size 2 [] l.fn.integers l.rest l.cursor lines
    × g.V.GeometryVisitor.has_parts l.initial.visitor (map plain lines) [] l.visitor

abbrev pub decreases-loop-cursor : goal.decreases-loop-cursor
decreases-loop-cursor g l = g.I.Integers.size l.rest
