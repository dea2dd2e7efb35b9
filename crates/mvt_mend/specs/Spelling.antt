-- What stands in place of integers, in terms of the lines or rings that they spell.
use Rattle.std.specs.Prelude.{◌≡◌, ◌≤◌, ℕ, Bool, true, false, List, length, Ok}
use Rattle.mvt_geometry.specs.declared.shape.Point.{Point}
use Rattle.mvt_geometry.specs.declared.shape.Kind.{Kind}
use Rattle.mvt_geometry.specs.declared.shape.Kind.TheVariants as kinds
use Rattle.mvt_geometry.specs.Shape.{IsPlace, origin}
use Rattle.std.specs.List.{AllByRecursion}
use Rattle.mvt_geometry.specs.Drawing.{strokes}
use Rattle.mvt_mend.specs.Reading.{least_of}
use Rattle.mvt_mend.specs.Drawing.{closing, can_draw_all}
use Rattle.mvt_rings.specs.declared.rings.Kept.{Kept}
use Rattle.mvt_mend.specs.Geometry.{kept_in, points_of}
use Rattle.mvt_mend.specs.Origins.{ComeFrom}

-- 4.3.4: the parts of this type of geometry are rings
abbrev pub has_rings : Kind → Bool
has_rings kinds.Polygon = true
has_rings kind = false

-- the integers spell lines or rings; those that stay, each in the direction that it should have, are what the new ones spell
pub record IsMendedTo (ring : Bool) (ints new : List ℕ) : Type 0 where
  pub parts : List (List Point)
  pub kept : List Kept
  pub spelled : ints ≡ strokes (closing ring) origin parts
  pub keeps : kept_in ring parts ≡ Ok kept
  pub comes : ring ≡ false → ComeFrom parts (points_of kept)
  pub drawable : can_draw_all origin (points_of kept) ≡ true
  pub draws : new ≡ strokes (closing ring) origin (points_of kept)

-- a line or ring of positions in range, with as many points as its commands need, whatever points it repeats
pub record HasForm (ring : Bool) (points : List Point) : Type 0 where
  pub enough : least_of ring ≤ length points
  pub places : AllByRecursion IsPlace points
