-- A ring told in the other direction.
use Rattle.std.specs.Prelude.{if◌then◌else◌, List, [], ◌∷◌, reverse}
use Rattle.mvt_geometry.specs.declared.shape.Point.{Point}
use Rattle.mvt_rings.specs.Signs.{is_positive, is_negative}
use Rattle.mvt_rings.specs.Repeats.{past}

-- a ring in the other direction, from the same first point; last points that equal it are left out
abbrev pub turned : List Point → List Point
turned [] = []
turned (p ∷ points) = p ∷ past p (reverse points)

-- 4.3.4.4: a ring as an exterior one
unfoldable pub as_exterior : List Point → List Point
as_exterior ring = if is_negative ring then turned ring else ring

-- 4.3.4.4: a ring as an interior one
unfoldable pub as_interior : List Point → List Point
as_interior ring = if is_positive ring then turned ring else ring
