use Rattle.std.proofs.Common.{◌≡◌, List, [], Some, length, take}
use Rattle.mvt_geometry.specs.declared.shape.Polygon.{Polygon}
use Rattle.mvt_rows.specs.Drawing.{AreJudged, DrawnPolygons, HasBegun}
use Rattle.mvt_rows.specs.TileRows.{steps, with_ring_row}
use Rattle.mvt_rows.specs.Undrawn.{strokes_of}
use Rattle.mvt_rows.proofs.writing.geometries.write_polygons.Given as goal

abbrev pub invariant-loop-index : goal.invariant-loop-index
invariant-loop-index l = record {
  polygons : List Polygon;
  made : steps (with_ring_row l.points) [] (take l.index l.rows) ≡ Some polygons;
  begun : HasBegun l.begun polygons;
  drawn : DrawnPolygons polygons l.cursor l.integers;
  count : length (strokes_of polygons) ≡ l.index;
  judged : AreJudged (strokes_of polygons) l.cursor;
}
