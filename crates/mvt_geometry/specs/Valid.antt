-- Which geometries can be drawn (Mapbox Vector Tile Specification 2.1, 4.3.4).
use Rattle.std.specs.Prelude.{◌≡◌, ℕ, ◌^◌, ◌<◌, ◌≤◌, pos, ◌≤ℤ◌, ◌<ℤ◌, List, [], ◌∷◌, length}
use Rattle.std.specs.List.{AllByRecursion}
use Rattle.mvt_geometry.specs.declared.shape.Point.{Point}
use Rattle.mvt_geometry.specs.declared.shape.Polygon.{Polygon}
use Rattle.mvt_geometry.specs.declared.shape.Geometry.{Geometry}
use Rattle.mvt_geometry.specs.declared.shape.Geometry.TheVariants.{Unknown, Points, Lines, Polygons}
use Rattle.mvt_geometry.specs.Shape.{Range, wide, narrow, IsPlaceOf, AreSteps, Apart, origin, rings_of, joined}
use Rattle.mvt_geometry.specs.Area.{area2}

-- 4.3.4.3, 4.3.4.4: a line (of 2 points at least) or a ring (of 3 at least)
pub record IsStrokeOf (range : Range) (least : ℕ) (points : List Point) : Type 0 where
  pub enough : least ≤ length points
  pub few : length points ≤ 2 ^ 29
  pub apart : Apart points
  pub places : AllByRecursion (IsPlaceOf range) points

-- the same in the wide range
abbrev pub IsStroke : ℕ → List Point → Type 0
IsStroke least points = IsStrokeOf wide least points

-- interior rings
abbrev pub AreInner : List (List Point) → Type 0
AreInner rings = AllByRecursion (λ ring. area2 ring ≤ℤ pos 0) rings

-- 4.3.4.4: the polygons that rings make: an exterior ring opens one, and the interior rings after it
-- are its; the first ring always opens one
abbrev pub Grouped : List (List Point) → List Polygon → Type 0
Grouped rings [] = ⊥
Grouped rings (p ∷ polygons) =
    (rings ≡ rings_of (p ∷ polygons)) × (pos 0 ≤ℤ area2 p.outer) × AreInner p.rest
    × AllByRecursion (λ q. (pos 0 <ℤ area2 q.outer) × AreInner q.rest) polygons

-- a geometry that integers can draw, with its positions in the range given
abbrev pub IsValidOf : Range → Geometry → Type 0
IsValidOf range (Unknown integers) = AllByRecursion (λ n. n < 2 ^ 32) integers
IsValidOf range (Points points) =
    (0 < length points) × (length points < 2 ^ 29) × AllByRecursion (IsPlaceOf range) points × AreSteps origin points
IsValidOf range (Lines lines) =
    (0 < length lines) × AllByRecursion (IsStrokeOf range 2) lines × AreSteps origin (joined lines)
IsValidOf range (Polygons polygons) =
    Grouped (rings_of polygons) polygons × AllByRecursion (IsStrokeOf range 3) (rings_of polygons)
    × AreSteps origin (joined (rings_of polygons))

-- a geometry that integers can draw
abbrev pub IsValid : Geometry → Type 0
IsValid g = IsValidOf wide g

-- valid with positions in the narrow range, and nothing said of differences
abbrev pub IsValidNarrow : Geometry → Type 0
IsValidNarrow (Unknown integers) = AllByRecursion (λ n. n < 2 ^ 32) integers
IsValidNarrow (Points points) =
    (0 < length points) × (length points < 2 ^ 29) × AllByRecursion (IsPlaceOf narrow) points
IsValidNarrow (Lines lines) = (0 < length lines) × AllByRecursion (IsStrokeOf narrow 2) lines
IsValidNarrow (Polygons polygons) =
    Grouped (rings_of polygons) polygons × AllByRecursion (IsStrokeOf narrow 3) (rings_of polygons)
