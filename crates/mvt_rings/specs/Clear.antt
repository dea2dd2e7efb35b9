-- Rings that come near a box nowhere, so that all of it lies on one side of them.
use Rattle.std.specs.Prelude.{◌≡◌, ◌&&◌, ◌||◌, not, Bool, true, false, if◌then◌else◌, pos, ◌-ℤ◌, List}
use Rattle.std.specs.List.{list_all}
use Rattle.std.specs.Int.Signed.{lt_z}
use Rattle.mvt_geometry.specs.declared.shape.Point.{Point}
use Rattle.mvt_rings.specs.declared.boxes.Bounds.{Bounds}
use Rattle.mvt_rings.specs.declared.nesting.Edge.{Edge}
use Rattle.mvt_rings.specs.declared.nesting.Spot.{Spot}
use Rattle.mvt_rings.specs.declared.nesting.Lies.TheVariants.{Inside, Outside}
use Rattle.mvt_rings.specs.Boxes.{less, greater, overlap}
use Rattle.mvt_rings.specs.Nesting.{in_parts, is_crossed, is_on, lies_at}
use Rattle.mvt_rings.specs.Placing.{is_level_with}

-- a point in a box
unfoldable pub is_in : Bounds → Point → Bool
is_in box p = overlap box.left box.right p.x p.x && overlap box.top box.bottom p.y p.y

-- an edge that is more than a unit to the left of a box
unfoldable pub is_left_of : Bounds → Edge → Bool
is_left_of box e = lt_z (greater e.from.x e.to.x) (box.left -ℤ pos 1)

-- or to its right
unfoldable pub is_right_of : Bounds → Edge → Bool
is_right_of box e = lt_z box.right (less e.from.x e.to.x -ℤ pos 1)

-- an edge whose own box is more than a unit away
unfoldable pub is_clear_of : Bounds → Edge → Bool
is_clear_of box e = not (is_level_with box e) || (is_left_of box e || is_right_of box e)

abbrev pub spot_of : Point → Spot
spot_of p = record { x = in_parts 2 p.x; y = in_parts 2 p.y }

-- what an edge that a spot isn't on says of it: it is crossed, or not
pub record Says (p : Spot) (crossed : Bool) (e : Edge) : Type 0 where
  pub on : is_on 2 p e ≡ false
  pub crosses : is_crossed 2 p e ≡ crossed

-- all edges are away from a box, of which a point lies inside of their ring, or outside
pub record IsAway (box : Bounds) (p : Point) (inside : Bool) (edges : List Edge) : Type 0 where
  pub clear : list_all (is_clear_of box) edges ≡ true
  pub lies : is_in box p ≡ true → lies_at 2 (spot_of p) edges ≡ (if inside then Inside else Outside)
