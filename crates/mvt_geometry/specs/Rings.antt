-- Rings that are closed by a point of their own (Mapbox Vector Tile Specification 2.1, 4.3.3.3).
use Rattle.std.specs.Prelude.{◌-◌, ◌&&◌, Bool, false, List, length, slice_get, Option, Some}
use Rattle.std.specs.Ordering.{int_eq}
use Rattle.mvt_geometry.specs.declared.shape.Point.{Point}

-- two points that are there and are the same
abbrev pub are_same : Option Point → Option Point → Bool
are_same (Some p) (Some q) = int_eq p.x q.x && int_eq p.y q.y
are_same _ _ = false

-- a ring whose last point is its first
abbrev pub is_closed : List Point → Bool
is_closed ring = are_same (slice_get ring 0) (slice_get ring (length ring - 1))
