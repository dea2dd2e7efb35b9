-- What can be drawn from where the cursor stands.
use Rattle.std.specs.Prelude.{◌≢◌, ℕ, ◌<◌, ◌≤◌, ◌^◌, Bool, true, false, pos, ◌≤ℤ◌, ◌<ℤ◌, List, [], ◌∷◌, length, ⊤}
use Rattle.mvt_geometry.specs.declared.shape.Point.{Point}
use Rattle.mvt_geometry.specs.declared.shape.Polygon.{Polygon}
use Rattle.mvt_geometry.specs.declared.shape.Geometry.{Geometry}
use Rattle.mvt_geometry.specs.declared.shape.Geometry.TheVariants.{Unknown, Points, Lines, Polygons}
use Rattle.mvt_geometry.specs.Shape.{IsPlace, IsStep, origin, last_of}
use Rattle.mvt_geometry.specs.Area.{area2}
use Rattle.mvt_geometry.specs.Valid.{AreInner}
use Rattle.mvt_geometry.specs.Inner.Strokes.{AreSmall}

-- a pair can lead from one point to another; a line leads away
abbrev pub IsStepTo : Bool → Point → Point → Type 0
IsStepTo true p q = (p ≢ q) × IsPlace q × IsStep p q
IsStepTo false p q = IsPlace q × IsStep p q

-- each point can be reached from the one before; in a line it lies elsewhere
abbrev pub IsPath : Bool → Point → List Point → Type 0
IsPath is_line c [] = ⊤
IsPath is_line c (p ∷ points) = IsStepTo is_line c p × IsPath is_line p points

-- a line of at least so many points that can be drawn from a cursor
abbrev pub IsLineFrom : ℕ → Point → List Point → Type 0
IsLineFrom least c [] = ⊥
IsLineFrom least c (p ∷ points) = (least ≤ length (p ∷ points)) × (length (p ∷ points) ≤ 2 ^ 29) × IsStepTo false c p × IsPath true p points

-- lines that can be drawn one after the other
abbrev pub AreLinesFrom : ℕ → Point → List (List Point) → Type 0
AreLinesFrom least c [] = ⊤
AreLinesFrom least c (l ∷ lines) = IsLineFrom least c l × AreLinesFrom least (last_of c l) lines

-- where the cursor stands after lines
abbrev pub end_of_lines : Point → List (List Point) → Point
end_of_lines c [] = c
end_of_lines c (l ∷ lines) = end_of_lines (last_of c l) lines

-- a ring that may open a polygon
abbrev pub HasArea : Bool → List Point → Type 0
HasArea true ring = pos 0 ≤ℤ area2 ring
HasArea false ring = pos 0 <ℤ area2 ring

-- a polygon that can be drawn from a cursor; the first ring may have no area
abbrev pub IsPolygonFrom : Bool → Point → Polygon → Type 0
IsPolygonFrom is_first c p = HasArea is_first p.outer × AreInner p.rest × IsLineFrom 3 c p.outer × AreLinesFrom 3 (last_of c p.outer) p.rest

-- where the cursor stands after a polygon
abbrev pub end_of_polygon : Point → Polygon → Point
end_of_polygon c p = end_of_lines (last_of c p.outer) p.rest

-- polygons that can be drawn one after the other
abbrev pub ArePolygonsFrom : Bool → Point → List Polygon → Type 0
ArePolygonsFrom is_first c [] = ⊤
ArePolygonsFrom is_first c (p ∷ polygons) = IsPolygonFrom is_first c p × ArePolygonsFrom false (end_of_polygon c p) polygons

-- what can be drawn, by kind
abbrev pub ArePoints : List Point → Type 0
ArePoints points = (0 < length points) × (length points < 2 ^ 29) × IsPath false origin points

-- lines of a feature (4.3.4.3)
abbrev pub AreLines : List (List Point) → Type 0
AreLines lines = (0 < length lines) × AreLinesFrom 2 origin lines

-- polygons of a feature (4.3.4.4)
abbrev pub ArePolygons : List Polygon → Type 0
ArePolygons polygons = (0 < length polygons) × ArePolygonsFrom true origin polygons

-- a geometry that commands can draw
abbrev pub CanBeDrawn : Geometry → Type 0
CanBeDrawn (Unknown integers) = AreSmall integers
CanBeDrawn (Points points) = ArePoints points
CanBeDrawn (Lines lines) = AreLines lines
CanBeDrawn (Polygons polygons) = ArePolygons polygons
