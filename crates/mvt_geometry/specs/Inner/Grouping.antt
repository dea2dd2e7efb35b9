-- The polygons that rings make, from after.
use Rattle.std.specs.Prelude.{if◌then◌else◌, Bool, false, ◌||◌, pos, List, [], ◌∷◌, ◌++◌}
use Rattle.std.specs.Int.Signed.{lt_z}
use Rattle.mvt_geometry.specs.declared.shape.Point.{Point}
use Rattle.mvt_geometry.specs.declared.shape.Polygon.{Polygon}
use Rattle.mvt_geometry.specs.Area.{area2}
use Rattle.mvt_geometry.specs.Visiting.{Part, ring_part}

-- the interior rings of a polygon that is open before these rings, and the polygons after it
pub record Groups : Type 0 where
  pub inner : List (List Point)
  pub polygons : List Polygon

-- one more ring in front
abbrev pub with_ring : List Point → Groups → Groups
with_ring ring groups =
    if lt_z (pos 0) (area2 ring) then record { inner = []; polygons = record { outer = ring; rest = groups.inner } ∷ groups.polygons }
    else record { inner = ring ∷ groups.inner; polygons = groups.polygons }

-- rings as polygons, each begun by an exterior ring
abbrev pub groups_of : List (List Point) → Groups
groups_of [] = record { inner = []; polygons = [] }
groups_of (ring ∷ rings) = with_ring ring (groups_of rings)

-- an open polygon, and those after it
abbrev pub opened : List Point → List (List Point) → List (List Point) → List Polygon
opened outer rest rings = record { outer = outer; rest = rest ++ (groups_of rings).inner } ∷ (groups_of rings).polygons

-- rings as parts; the first of all rings is exterior
abbrev pub parts_of_rings : Bool → List (List Point) → List Part
parts_of_rings is_first [] = []
parts_of_rings is_first (ring ∷ rings) =
    ring_part (is_first || lt_z (pos 0) (area2 ring)) ring ∷ parts_of_rings false rings

-- the polygons of rings whose first is exterior
abbrev pub polygons_of : List (List Point) → List Polygon
polygons_of [] = []
polygons_of (ring ∷ rings) = opened ring [] rings
