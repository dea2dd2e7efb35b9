-- The integers of lines or rings, where commands can count their points and parameters can say their differences.
use Rattle.std.specs.Prelude.{ℕ, ◌&&◌, not, nat_lt, nat_le, Bool, true, false, if◌then◌else◌, ◌-ℤ◌, List, [], ◌∷◌, length, Option, Some, None}
use Rattle.mvt_geometry.specs.declared.shape.Point.{Point}
use Rattle.mvt_geometry.specs.Shape.{wide, origin, last_of}
use Rattle.mvt_geometry.specs.Table.{is_outside}
use Rattle.mvt_geometry.specs.Drawing.{strokes}

-- 4.3.2: a pair leads from one point to another
unfoldable pub is_near : Point → Point → Bool
is_near p q = not (is_outside wide (q.x -ℤ p.x)) && not (is_outside wide (q.y -ℤ p.y))

-- pairs lead over these points
abbrev pub are_near : Point → List Point → Bool
are_near c [] = true
are_near c (p ∷ points) = is_near c p && are_near p points

-- a line or ring that commands can draw: one point at least, 2^29 at most
abbrev pub can_draw : Point → List Point → Bool
can_draw c points = (nat_lt 0 (length points) && nat_le (length points) 536870912) && are_near c points

-- lines or rings, each from where the last one ends
abbrev pub can_draw_all : Point → List (List Point) → Bool
can_draw_all c [] = true
can_draw_all c (l ∷ lines) = can_draw c l && can_draw_all (last_of c l) lines

-- 4.3.3.3: what ends a line or a ring
abbrev pub closing : Bool → List ℕ
closing false = []
closing true = 15 ∷ []

-- their integers
abbrev pub drawn_parts : Bool → List (List Point) → Option (List ℕ)
drawn_parts ring parts = if can_draw_all origin parts then Some (strokes (closing ring) origin parts) else None
