use Rattle.std.proofs.Common.{drop, true}
use Rattle.mvt_geometry.specs.Shape.{origin}
use Rattle.mvt_geometry.specs.Inner.Validity.{ArePolygonsFrom}
use Rattle.mvt_geometry.proofs.validity.are_polygons.Given as goal

abbrev pub invariant-loop-polygon : goal.invariant-loop-polygon
invariant-loop-polygon l =
    (ArePolygonsFrom true origin l.polygons → ArePolygonsFrom l.is_first l.cursor (drop l.polygon-index l.polygons))
    × (ArePolygonsFrom l.is_first l.cursor (drop l.polygon-index l.polygons) → ArePolygonsFrom true origin l.polygons)
