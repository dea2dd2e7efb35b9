-- Which rule a geometry breaks that no commands draw (Mapbox Vector Tile Specification 2.1, 4.3): the first, in the order in
-- which it would be drawn. That is part by part: the step to the first point, how many points there are, the step to each
-- other point, and at last the area of a ring.
use Rattle.std.specs.Prelude.{ℕ, suc, ◌^◌, ◌&&◌, ◌||◌, not, nat_lt, Bool, true, false, ℤ, pos, ◌-ℤ◌, List, [], ◌∷◌, ◌++◌, length, map, Option, Some, None, if◌then◌else◌}
use Rattle.std.specs.Int.Signed.{lt_z}
use Rattle.std.specs.List.{flat_map}
use Rattle.std.specs.Option.{option_map, option_or}
use Rattle.std.specs.Ordering.{int_eq}
use Rattle.mvt_geometry.specs.declared.strokes.RingRole.{RingRole}
use Rattle.mvt_geometry.specs.declared.strokes.RingRole.TheVariants.{First, Exterior, Interior}
use Rattle.mvt_geometry.specs.declared.shape.Geometry.{Geometry}
use Rattle.mvt_geometry.specs.declared.shape.Geometry.TheVariants.{Unknown, Points, Lines, Polygons}
use Rattle.mvt_geometry.specs.declared.shape.Point.{Point}
use Rattle.mvt_geometry.specs.declared.shape.Polygon.{Polygon}
use Rattle.mvt_geometry.specs.Area.{area2}
use Rattle.mvt_geometry.specs.Shape.{last_of, origin, wide}
use Rattle.mvt_geometry.specs.Table.{is_outside}
use Rattle.mvt_rows.specs.declared.undrawn.DrawingRule.{DrawingRule}
use Rattle.mvt_rows.specs.declared.undrawn.DrawingRule.TheVariants.{Count, ZeroSegment, CoordinateRange, FirstRing, EndsEarly, ParameterRange, ExteriorRing, InteriorRing}
use Rattle.mvt_rows.specs.declared.undrawn.Undrawn.{Undrawn}

-- a rule broken by a part as a whole, or at one of its points
abbrev pub of_part : ℕ → DrawingRule → Undrawn
of_part part rule = record { rule = rule; part = part; point = None }

abbrev pub at_point : ℕ → ℕ → DrawingRule → Undrawn
at_point part point rule = record { rule = rule; part = part; point = Some point }

-- 4.3.2: one of two coordinates is out of range
abbrev pub is_out : ℤ → ℤ → Bool
is_out x y = is_outside wide x || is_outside wide y

-- 4.3.3.2: a LineTo goes nowhere
abbrev pub is_zero : Bool → Point → Point → Bool
is_zero is_line p q = is_line && (int_eq p.x q.x && int_eq p.y q.y)

-- 4.3.2, 4.3.3.2: a step from one point to another, of a line or of a MoveTo: first the difference, then the position
abbrev pub step_rule : Bool → Point → Point → Option DrawingRule
step_rule is_line from to =
    if is_out (to.x -ℤ from.x) (to.y -ℤ from.y) then Some ParameterRange
    else (if is_zero is_line from to then Some ZeroSegment
    else (if is_out to.x to.y then Some CoordinateRange else None))

-- the steps to points of a part, the first of which has this number
abbrev pub path_fault : Bool → ℕ → ℕ → Point → List Point → Option Undrawn
path_fault is_line part number from [] = None
path_fault is_line part number from (p ∷ points) =
    option_or (option_map (at_point part number) (step_rule is_line from p)) (path_fault is_line part (suc number) p points)

-- 4.3.4.3, 4.3.4.4: how many points a line or a ring has; commands have a count of 2^29 - 1 at most
abbrev pub count_fault : ℕ → ℕ → ℕ → Option Undrawn
count_fault part least count = if nat_lt count least || nat_lt (2 ^ 29) count then Some (of_part part Count) else None

-- a line of at least so many points, or a ring but for its area
abbrev pub stroke_fault : ℕ → ℕ → Point → List Point → Option Undrawn
stroke_fault part least from [] = Some (of_part part Count)
stroke_fault part least from (p ∷ points) =
    option_or (option_map (at_point part 0) (step_rule false from p))
    (option_or (count_fault part least (length (p ∷ points))) (path_fault true part 1 p points))

-- 4.3.4.4: whether a ring may have this area, doubled, and the rule that it else breaks
abbrev pub allows : RingRole → ℤ → Bool
allows First area = not (lt_z area (pos 0))
allows Exterior area = lt_z (pos 0) area
allows Interior area = not (lt_z (pos 0) area)

abbrev pub area_rule : RingRole → DrawingRule
area_rule First = FirstRing
area_rule Exterior = ExteriorRing
area_rule Interior = InteriorRing

-- a line, or a ring that has a role
pub record Stroke : Type 0 where
  pub role : Option RingRole
  pub points : List Point

abbrev pub a_line : List Point → Stroke
a_line points = record { role = None; points = points }

abbrev pub a_ring : RingRole → List Point → Stroke
a_ring role points = record { role = Some role; points = points }

abbrev pub area_fault : ℕ → RingRole → List Point → Option Undrawn
area_fault part role ring = if allows role (area2 ring) then None else Some (of_part part (area_rule role))

abbrev pub part_by : Option RingRole → ℕ → Point → List Point → Option Undrawn
part_by None part from points = stroke_fault part 2 from points
part_by (Some role) part from points = option_or (stroke_fault part 3 from points) (area_fault part role points)

-- the lines or rings of a feature, each from where the last one ends, the first of which has this number
abbrev pub parts_fault : ℕ → Point → List Stroke → Option Undrawn
parts_fault part from [] = None
parts_fault part from (s ∷ strokes) =
    option_or (part_by s.role part from s.points) (parts_fault (suc part) (last_of from s.points) strokes)

-- the rings of polygons, each exterior ring before its interior rings
abbrev pub further_rings : Polygon → List Stroke
further_rings p = a_ring Exterior p.outer ∷ map (a_ring Interior) p.rest

abbrev pub strokes_of : List Polygon → List Stroke
strokes_of [] = []
strokes_of (p ∷ polygons) = (a_ring First p.outer ∷ map (a_ring Interior) p.rest) ++ flat_map further_rings polygons

-- lines or rings, of which there is one at least
abbrev pub some_fault : List Stroke → Option Undrawn
some_fault [] = Some (of_part 0 EndsEarly)
some_fault (s ∷ strokes) = parts_fault 0 origin (s ∷ strokes)

-- 4.3.4.2: the points of a feature of points, which are one part: a MoveTo to each
abbrev pub points_fault : List Point → Option Undrawn
points_fault points =
    if nat_lt 0 (length points) && nat_lt (length points) (2 ^ 29) then path_fault false 0 0 origin points else Some (of_part 0 Count)

-- the first rule that a geometry breaks, the part and the point; one of unknown type breaks none
abbrev pub undrawn_by : Geometry → Option Undrawn
undrawn_by (Unknown integers) = None
undrawn_by (Points points) = points_fault points
undrawn_by (Lines lines) = some_fault (map a_line lines)
undrawn_by (Polygons polygons) = some_fault (strokes_of polygons)
