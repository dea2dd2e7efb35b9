-- The rings of a polygon, with what is asked of them more than once.
use Rattle.std.specs.Prelude.{ℕ, ◌+◌, ◌==◌, nat_lt, ◌&&◌, ◌||◌, not, Bool, true, false, List, [], ◌∷◌, unsigned_abs}
use Rattle.mvt_geometry.specs.declared.shape.Point.{Point}
use Rattle.mvt_geometry.specs.Area.{area2}
use Rattle.mvt_rings.specs.declared.rings.Ring.{Ring}
use Rattle.mvt_rings.specs.declared.placing.Place.{Place}
use Rattle.mvt_rings.specs.Signs.{is_negative}
use Rattle.mvt_rings.specs.Repeats.{without_repeats, opened}
use Rattle.mvt_rings.specs.Boxes.{bounds_of, meets}
use Rattle.mvt_rings.specs.Nesting.{edges_of}
use Rattle.mvt_rings.specs.Placing.{band, is_narrow, place_in}

-- the ring of these points; twice its area, without the sign
abbrev pub ring_of : ℕ → List Point → Ring
ring_of n points =
    record {
      index = n;
      points = points;
      size = unsigned_abs (area2 points);
      is_negative = is_negative points;
      is_narrow = is_narrow points;
      bounds = bounds_of points;
    }

-- all rings, the first of this index, without repeated points and without last points that equal the first
abbrev pub rings_from : ℕ → List (List Point) → List Ring
rings_from n [] = []
rings_from n (part ∷ parts) = ring_of n (opened (without_repeats part)) ∷ rings_from (n + 1) parts

-- one ring is larger than another: of equal ones the first
abbrev pub is_larger : Ring → Ring → Bool
is_larger o r = nat_lt r.size o.size || ((o.size == r.size) && nat_lt o.index r.index)

-- one ring may hold another: it is larger, and their boxes meet
unfoldable pub may_hold : Ring → Ring → Bool
may_hold o r = is_larger o r && meets o.bounds r.bounds

-- two flags differ
abbrev pub differ : Bool → Bool → Bool
differ true b = not b
differ false b = b

-- where a ring lies as to one that may hold it
unfoldable pub place : Ring → Ring → Place
place o r = place_in (band r.bounds o.points) (edges_of r.points) r.is_narrow (differ o.is_negative r.is_negative)
