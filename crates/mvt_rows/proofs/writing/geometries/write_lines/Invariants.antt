use Rattle.std.proofs.Common.{◌≡◌, List, Some, map, take}
use Rattle.mvt_geometry.specs.declared.shape.Point.{Point}
use Rattle.mvt_rows.specs.Drawing.{AreJudged, DrawnLines}
use Rattle.mvt_rows.specs.TileRows.{each, line_of}
use Rattle.mvt_rows.specs.Undrawn.{a_line}
use Rattle.mvt_rows.proofs.writing.geometries.write_lines.Given as goal

abbrev pub invariant-loop-index : goal.invariant-loop-index
invariant-loop-index l = record {
  lines : List (List Point);
  made : each (line_of l.points) (take l.index l.rows) ≡ Some lines;
  drawn : DrawnLines lines l.cursor l.integers;
  judged : AreJudged (map a_line lines) l.cursor;
}
