use Rattle.std.proofs.Common.{◌≡◌, List, [], ◌∷◌, ◌++◌, length}
use Rattle.mvt_geometry.specs.declared.shape.Point.{Point}
use Rattle.mvt_geometry.specs.Inner.Building.{SpellLines, SpellRings}
use Rattle.mvt_geometry.specs.Inner.Grouping.{opened, polygons_of}
use Rattle.mvt_geometry.proofs.reading.build_polygons.Given as goal

abbrev pub invariant-loop-rest : goal.invariant-loop-rest
invariant-loop-rest l =
    (rings : List (List Point)) → SpellRings l.integers rings → (todo : List (List Point))
    × (l.polygons.items ++ opened l.current.outer l.current.inner.items todo ≡ polygons_of rings)
    × SpellLines (15 ∷ []) l.cursor l.rest todo

abbrev pub decreases-loop-rest : goal.decreases-loop-rest
decreases-loop-rest l = length l.rest
