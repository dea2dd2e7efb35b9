use Rattle.std.proofs.Common.{◌≡◌, take}
use Rattle.mvt_geometry.proofs.shape.copy_polygons.Given as goal

abbrev pub invariant-loop-polygon : goal.invariant-loop-polygon
invariant-loop-polygon l = l.copies.items ≡ take l.polygon-index l.polygons
