-- The sign of a ring's area (Mapbox Vector Tile Specification 2.1, 4.3.4.4).
use Rattle.std.specs.Prelude.{Bool, pos, List}
use Rattle.std.specs.Int.Signed.{lt_z}
use Rattle.mvt_geometry.specs.declared.shape.Point.{Point}
use Rattle.mvt_geometry.specs.Area.{area2}

-- the area of an exterior ring
unfoldable pub is_positive : List Point → Bool
is_positive ring = lt_z (pos 0) (area2 ring)

-- the area of an interior ring
unfoldable pub is_negative : List Point → Bool
is_negative ring = lt_z (area2 ring) (pos 0)
