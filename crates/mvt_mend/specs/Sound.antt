-- Rings that stay, and draw a geometry where they can be drawn.
use Rattle.std.specs.Prelude.{◌≡◌, ◌≤◌, ◌||◌, ℕ, Bool, true, List, length, Some}
use Rattle.mvt_wire.specs.Packed.{is_nil}
use Rattle.mvt_geometry.specs.declared.shape.Kind.{Kind}
use Rattle.mvt_rings.specs.declared.rings.Kept.{Kept}
use Rattle.mvt_mend.specs.Drawing.{drawn_parts}
use Rattle.mvt_mend.specs.Geometry.{is_faultless, points_of}

-- 4.3.4.4: a ring has three points at least
abbrev pub IsLong : Kept → Type 0
IsLong k = 3 ≤ length k.points

-- what is drawn of lines or rings is nothing or draws a geometry
abbrev pub DrawsOnly : Kind → Bool → List Kept → Type 0
DrawsOnly kind ring kept =
    (new : List ℕ) → drawn_parts ring (points_of kept) ≡ Some new → (is_nil new || is_faultless kind new) ≡ true
