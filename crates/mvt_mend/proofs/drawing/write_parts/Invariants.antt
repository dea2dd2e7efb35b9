use Rattle.std.proofs.Common.{◌≡◌, ◌++◌, drop}
use Rattle.mvt_geometry.specs.Shape.{origin}
use Rattle.mvt_geometry.specs.Drawing.{strokes}
use Rattle.mvt_mend.specs.Drawing.{can_draw_all, closing}
use Rattle.mvt_mend.specs.Geometry.{points_of}
use Rattle.mvt_mend.proofs.drawing.write_parts.Given as goal

abbrev pub invariant-loop-part : goal.invariant-loop-part
invariant-loop-part l = record {
  can : can_draw_all l.cursor (points_of (drop l.part-index l.parts)) ≡ can_draw_all origin (points_of l.parts);
  drawn : l.integers.items ++ strokes (closing l.is_ring) l.cursor (points_of (drop l.part-index l.parts))
      ≡ strokes (closing l.is_ring) origin (points_of l.parts);
}
