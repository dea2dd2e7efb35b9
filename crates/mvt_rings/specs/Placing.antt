-- Where a ring lies as to a larger one, but for the unit by which rounding moves points.
use Rattle.std.specs.Prelude.{ℕ, ◌+◌, ◌*◌, nat_lt, nat_le, ◌&&◌, ◌||◌, not, Bool, true, false, if◌then◌else◌, ℤ, pos, ◌+ℤ◌, ◌-ℤ◌, List, [], ◌∷◌, filter, max, unsigned_abs}
use Rattle.std.specs.List.{list_all}
use Rattle.std.specs.Int.Signed.{lt_z}
use Rattle.mvt_geometry.specs.declared.shape.Point.{Point}
use Rattle.mvt_geometry.specs.Area.{area2}
use Rattle.mvt_rings.specs.declared.boxes.Bounds.{Bounds}
use Rattle.mvt_rings.specs.declared.nesting.Spot.{Spot}
use Rattle.mvt_rings.specs.declared.nesting.Edge.{Edge}
use Rattle.mvt_rings.specs.declared.nesting.Lies.{Lies}
use Rattle.mvt_rings.specs.declared.nesting.Lies.TheVariants.{Inside, OnEdge, Outside}
use Rattle.mvt_rings.specs.declared.placing.Place.{Place}
use Rattle.mvt_rings.specs.declared.placing.Place.TheVariants.{Held, Apart, Unclear}
use Rattle.mvt_rings.specs.Boxes.{less, greater}
use Rattle.mvt_rings.specs.Nesting.{edges_of, lies_at, in_parts}

-- marks are spots in halves of a unit: the end of an edge
abbrev pub end_of : Edge → Spot
end_of e = record { x = in_parts 2 e.to.x; y = in_parts 2 e.to.y }

-- and its middle
abbrev pub middle_of : Edge → Spot
middle_of e = record { x = e.from.x +ℤ e.to.x; y = e.from.y +ℤ e.to.y }

-- whether a spot is on one side of a ring, or on its edge
abbrev pub fits : Bool → Lies → Bool
fits inside Inside = inside
fits inside OnEdge = true
fits inside Outside = not inside

abbrev pub fits_at : Bool → List Edge → ℤ → ℤ → Bool
fits_at inside edges x y = fits inside (lies_at 2 (record { x = x; y = y }) edges)

-- the same of one of three spots in a row, a unit apart
abbrev pub row_fits : Bool → List Edge → ℤ → ℤ → Bool
row_fits inside edges x y =
    fits_at inside edges x y || (fits_at inside edges (x -ℤ pos 2) y || fits_at inside edges (x +ℤ pos 2) y)

-- the same of a mark, or of one of the eight spots around it
abbrev pub is_near : Bool → List Edge → Spot → Bool
is_near inside edges p =
    row_fits inside edges p.x p.y || (row_fits inside edges p.x (p.y -ℤ pos 2) || row_fits inside edges p.x (p.y +ℤ pos 2))

-- the same of both marks of an edge
abbrev pub edge_near : Bool → List Edge → Edge → Bool
edge_near inside edges e = is_near inside edges (end_of e) && is_near inside edges (middle_of e)

-- the same of all marks of a ring
abbrev pub all_near : Bool → List Edge → List Edge → Bool
all_near inside edges marks = list_all (edge_near inside edges) marks

abbrev pub one_if : Bool → ℕ
one_if true = 1
one_if false = 0

-- 1 where a mark is on one side and not on the edge
abbrev pub strictly : Bool → List Edge → Spot → ℕ
strictly inside edges p = one_if (not (fits (not inside) (lies_at 2 p edges)))

-- how many marks of a ring are on one side and not on the edge
abbrev pub marks_on : Bool → List Edge → List Edge → ℕ
marks_on inside edges [] = 0
marks_on inside edges (e ∷ marks) =
    (strictly inside edges (end_of e) + strictly inside edges (middle_of e)) + marks_on inside edges marks

-- the length of a ring: of each edge the greater difference
abbrev pub length_of : List Edge → ℕ
length_of [] = 0
length_of (e ∷ edges) = max (unsigned_abs (e.to.x -ℤ e.from.x)) (unsigned_abs (e.to.y -ℤ e.from.y)) + length_of edges

-- rounding can make such a ring, or turn it: its area is at most its length
unfoldable pub is_narrow : List Point → Bool
is_narrow ring = nat_le (unsigned_abs (area2 ring)) (2 * length_of (edges_of ring))

-- an edge that is level with a box, a unit wider
unfoldable pub is_level_with : Bounds → Edge → Bool
is_level_with box e =
    not (lt_z (greater e.from.y e.to.y) (box.top -ℤ pos 1)) && not (lt_z box.bottom (less e.from.y e.to.y -ℤ pos 1))

-- the edges of a ring that are level with a box; no other one says where the marks of what it holds lie
abbrev pub band : Bounds → List Point → List Edge
band box ring = filter (is_level_with box) (edges_of ring)

-- a narrow ring is held where more of its marks are inside than outside
abbrev pub narrow_place : ℕ → ℕ → Place
narrow_place inside outside = if nat_lt outside inside then Held else Apart

-- any other where all its marks are inside but for a unit, and apart where all are outside so. Where both holds the two are
-- nearly the same ring: if they run against one another, what is between them is narrow
abbrev pub wide_place : Bool → Bool → Bool → Place
wide_place true true against = if against then Held else Unclear
wide_place true false against = Held
wide_place false true against = Apart
wide_place false false against = Unclear

-- where a ring of these edges lies as to one whose edges that are level with it are these
unfoldable pub place_in : List Edge → List Edge → Bool → Bool → Place
place_in edges marks narrow against =
    if narrow then narrow_place (marks_on true edges marks) (marks_on false edges marks)
    else wide_place (all_near true edges marks) (all_near false edges marks) against
