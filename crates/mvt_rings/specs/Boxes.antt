-- The box of a ring: y goes down, so that its top is the least y.
use Rattle.std.specs.Prelude.{◌&&◌, not, Bool, if◌then◌else◌, ℤ, pos, List, [], ◌∷◌}
use Rattle.std.specs.Int.Signed.{lt_z}
use Rattle.mvt_geometry.specs.declared.shape.Point.{Point}
use Rattle.mvt_rings.specs.declared.boxes.Bounds.{Bounds}

abbrev pub less : ℤ → ℤ → ℤ
less a b = if lt_z a b then a else b

abbrev pub greater : ℤ → ℤ → ℤ
greater a b = if lt_z b a then a else b

-- the least box around another and a point
abbrev pub grown : Bounds → Point → Bounds
grown b p = record { left = less p.x b.left; right = greater p.x b.right; top = less p.y b.top; bottom = greater p.y b.bottom }

-- the least box around another and these points
abbrev pub bounds_with : Bounds → List Point → Bounds
bounds_with b [] = b
bounds_with b (p ∷ points) = bounds_with (grown b p) points

-- the box of a ring
abbrev pub bounds_of : List Point → Bounds
bounds_of [] = record { left = pos 0; right = pos 0; top = pos 0; bottom = pos 0 }
bounds_of (p ∷ points) = bounds_with (record { left = p.x; right = p.x; top = p.y; bottom = p.y }) points

-- two ranges have a number in common, both ends included
abbrev pub overlap : ℤ → ℤ → ℤ → ℤ → Bool
overlap low high from to = not (lt_z to low) && not (lt_z high from)

-- two boxes have a point in common, be it of their edges
unfoldable pub meets : Bounds → Bounds → Bool
meets a b = overlap a.left a.right b.left b.right && overlap a.top a.bottom b.top b.bottom
