-- Where a spot lies as to a ring, by whole numbers alone. A spot's coordinates are in parts of a unit, so that also what lies
-- between whole points is told: with two parts the middle of each edge is a spot.
use Rattle.std.specs.Prelude.{ℕ, ◌&&◌, not, Bool, false, if◌then◌else◌, ℤ, pos, ◌-ℤ◌, ◌*ℤ◌, List, [], ◌∷◌}
use Rattle.std.specs.Ordering.{int_eq}
use Rattle.std.specs.Int.Signed.{lt_z}
use Rattle.mvt_geometry.specs.declared.shape.Point.{Point}
use Rattle.mvt_geometry.specs.Shape.{origin, last_of}
use Rattle.mvt_rings.specs.declared.nesting.Spot.{Spot}
use Rattle.mvt_rings.specs.declared.nesting.Edge.{Edge}
use Rattle.mvt_rings.specs.declared.nesting.Lies.{Lies}
use Rattle.mvt_rings.specs.declared.nesting.Lies.TheVariants.{Inside, OnEdge, Outside}

-- the edges of the path from a point over others
abbrev pub edges_from : Point → List Point → List Edge
edges_from a [] = []
edges_from a (b ∷ points) = record { from = a; to = b } ∷ edges_from b points

-- the edges of a ring; that from its last point to its first comes first
abbrev pub edges_of : List Point → List Edge
edges_of ring = edges_from (last_of origin ring) ring

-- a coordinate in parts of a unit
abbrev pub in_parts : ℕ → ℤ → ℤ
in_parts parts z = pos parts *ℤ z

-- twice the area of the triangle that an edge makes with a spot, in parts: on which side of the edge the spot is
unfoldable pub side : ℕ → Spot → Edge → ℤ
side parts p e =
    ((e.to.x -ℤ e.from.x) *ℤ (p.y -ℤ in_parts parts e.from.y)) -ℤ ((e.to.y -ℤ e.from.y) *ℤ (p.x -ℤ in_parts parts e.from.x))

-- a number that is neither below the first of two others nor above the second
abbrev pub is_within : ℤ → ℤ → ℤ → Bool
is_within z low high = not (lt_z z low) && not (lt_z high z)

-- a number between two others, whichever is less, or equal to one
unfoldable pub is_between : ℤ → ℤ → ℤ → Bool
is_between z a b = if lt_z a b then is_within z a b else is_within z b a

-- a spot lies on an edge
unfoldable pub is_on : ℕ → Spot → Edge → Bool
is_on parts p e =
    (is_between p.y (in_parts parts e.from.y) (in_parts parts e.to.y) && is_between p.x (in_parts parts e.from.x) (in_parts parts e.to.x))
    && int_eq (side parts p e) (pos 0)

-- an edge crosses the ray that goes from a spot to greater x
unfoldable pub is_crossed : ℕ → Spot → Edge → Bool
is_crossed parts p e =
    if lt_z p.y (in_parts parts e.from.y) then not (lt_z p.y (in_parts parts e.to.y)) && lt_z (side parts p e) (pos 0)
    else lt_z p.y (in_parts parts e.to.y) && lt_z (pos 0) (side parts p e)

-- where a spot lies, if of the edges before an odd number was crossed: on one of these, inside or outside
abbrev pub lies_after : ℕ → Spot → Bool → List Edge → Lies
lies_after parts p odd [] = if odd then Inside else Outside
lies_after parts p odd (e ∷ edges) =
    if is_on parts p e then OnEdge else lies_after parts p (if is_crossed parts p e then not odd else odd) edges

-- where a spot lies as to the ring of these edges: even-odd
abbrev pub lies_at : ℕ → Spot → List Edge → Lies
lies_at parts p edges = lies_after parts p false edges
