-- Points and lines of points (Mapbox Vector Tile Specification 2.1, 4.3).
use Rattle.std.specs.Prelude.{◌≢◌, ℤ, pos, negsuc, ◌-ℤ◌, ◌≤ℤ◌, List, [], ◌∷◌, ⊤}
use Rattle.std.specs.List.{flat_map}
use Rattle.mvt_geometry.specs.declared.shape.Point.{Point}
use Rattle.mvt_geometry.specs.declared.shape.Polygon.{Polygon}
use Rattle.mvt_geometry.specs.declared.shape.Geometry.{Geometry}
use Rattle.mvt_geometry.specs.declared.shape.Geometry.TheVariants.{Unknown, Points, Lines, Polygons}
use Rattle.mvt_geometry.specs.declared.shape.Kind.{Kind}
use Rattle.mvt_geometry.specs.declared.shape.Kind.TheVariants as kinds

-- 4.3.4: the type of a geometry
abbrev pub kind_of : Geometry → Kind
kind_of (Unknown integers) = kinds.Unknown
kind_of (Points points) = kinds.Point
kind_of (Lines lines) = kinds.LineString
kind_of (Polygons polygons) = kinds.Polygon

-- 4.3.4.4: the rings of polygons, each exterior ring before its interior rings
abbrev pub rings_of : List Polygon → List (List Point)
rings_of polygons = flat_map (λ p. p.outer ∷ p.rest) polygons

-- the points of all lines, in one list
abbrev pub joined : List (List Point) → List Point
joined lines = flat_map (λ l. l) lines

-- 4.3.3: the cursor after a line: its last point
abbrev pub last_of : Point → List Point → Point
last_of cursor [] = cursor
last_of cursor (p ∷ points) = last_of p points

-- 4.3.3: the cursor before the first command
abbrev pub origin : Point
origin = record { x = pos 0; y = pos 0 }

-- the coordinates that a profile allows, both ends included
pub record Range : Type 0 where
  pub low : ℤ
  pub high : ℤ

-- what a parameter can move by, and the range of positions: 2^31 - 1 to both sides
abbrev pub wide : Range
wide = record { low = negsuc 2147483646; high = pos 2147483647 }

-- the narrow range of positions, -2^30 to 2^30 - 1: that of the first profile
abbrev pub narrow : Range
narrow = record { low = negsuc 1073741823; high = pos 1073741823 }

-- a number in a range
pub record InRangeOf (range : Range) (z : ℤ) : Type 0 where
  pub low : range.low ≤ℤ z
  pub high : z ≤ℤ range.high

-- a number in the wide range
abbrev pub InRange : ℤ → Type 0
InRange z = InRangeOf wide z

-- both coordinates are in range
abbrev pub IsPlaceOf : Range → Point → Type 0
IsPlaceOf range p = InRangeOf range p.x × InRangeOf range p.y

-- a position that can be drawn
abbrev pub IsPlace : Point → Type 0
IsPlace p = IsPlaceOf wide p

-- both differences are what parameters can say
abbrev pub IsStep : Point → Point → Type 0
IsStep p q = InRange (q.x -ℤ p.x) × InRange (q.y -ℤ p.y)

-- each point is a step from the one before it, the first from the point given
abbrev pub AreSteps : Point → List Point → Type 0
AreSteps before [] = ⊤
AreSteps before (p ∷ points) = IsStep before p × AreSteps p points

-- 4.3.3.2: neighbours differ
abbrev pub Apart : List Point → Type 0
Apart [] = ⊤
Apart (p ∷ []) = ⊤
Apart (p ∷ q ∷ points) = (p ≢ q) × Apart (q ∷ points)
