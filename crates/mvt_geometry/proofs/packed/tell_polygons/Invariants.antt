use Rattle.std.proofs.Common.{◌≡◌, true, List, [], ◌∷◌}
use Rattle.mvt_geometry.specs.declared.shape.Point.{Point}
use Rattle.mvt_geometry.specs.Inner.Grouping.{parts_of_rings}
use Rattle.mvt_geometry.specs.Inner.Telling.{AreInFront, is_still_first}
use Rattle.mvt_geometry.proofs.PolygonLemmas.{HasFineFirst}
use Rattle.mvt_geometry.proofs.packed.tell_polygons.Given as goal

abbrev pub invariant-loop-cursor : goal.invariant-loop-cursor
invariant-loop-cursor g l =
    (rings : List (List Point)) × AreInFront g.I.Integers.are g.I.Integers.size 3 (15 ∷ []) l.fn.integers l.rest l.cursor rings × HasFineFirst rings
    × (l.is_first ≡ is_still_first true rings)
    × g.V.GeometryVisitor.has_parts l.initial.visitor (parts_of_rings true rings) [] l.visitor

abbrev pub decreases-loop-cursor : goal.decreases-loop-cursor
decreases-loop-cursor g l = g.I.Integers.size l.rest
