-- The integers that draw a geometry (Mapbox Vector Tile Specification 2.1, 4.3.1 to 4.3.4).
use Rattle.std.specs.Prelude.{◌≡◌, ℕ, ◌+◌, ◌*◌, ◌-ℤ◌, List, [], ◌∷◌, ◌++◌, length}
use Rattle.mvt_wire.specs.Zigzag.{zig}
use Rattle.mvt_geometry.specs.declared.shape.Point.{Point}
use Rattle.mvt_geometry.specs.declared.shape.Kind.{Kind}
use Rattle.mvt_geometry.specs.declared.shape.Geometry.{Geometry}
use Rattle.mvt_geometry.specs.declared.shape.Geometry.TheVariants.{Unknown, Points, Lines, Polygons}
use Rattle.mvt_geometry.specs.Shape.{Range, wide, origin, rings_of, last_of, kind_of}
use Rattle.mvt_geometry.specs.Valid.{IsValidOf}

-- 4.3.2: for each point its difference from the one before it, as two zigzag numbers
abbrev pub path_from : Point → List Point → List ℕ
path_from before [] = []
path_from before (p ∷ points) = zig (p.x -ℤ before.x) ∷ zig (p.y -ℤ before.y) ∷ path_from p points

-- the path of a feature, whose cursor begins at the origin
abbrev pub path : List Point → List ℕ
path points = path_from origin points

-- 4.3.4.3, 4.3.4.4: a line or ring from the cursor: MoveTo its first point, LineTo the others, and what ends it
abbrev pub stroke : List ℕ → Point → List Point → List ℕ
stroke end cursor [] = end
stroke end cursor (p ∷ points) = (9 ∷ path_from cursor (p ∷ [])) ++ (((2 + 8 * length points) ∷ path_from p points) ++ end)

-- the lines or rings of a feature, each from where the last one ends
abbrev pub strokes : List ℕ → Point → List (List Point) → List ℕ
strokes end cursor [] = []
strokes end cursor (l ∷ lines) = stroke end cursor l ++ strokes end (last_of cursor l) lines

-- the integers of a geometry; 15 is ClosePath
abbrev pub drawn : Geometry → List ℕ
drawn (Unknown integers) = integers
drawn (Points points) = (1 + 8 * length points) ∷ path points
drawn (Lines lines) = strokes [] origin lines
drawn (Polygons polygons) = strokes (15 ∷ []) origin (rings_of polygons)

-- integers draw a geometry of this kind, with its positions in the range given
pub record DrawsOf (range : Range) (kind : Kind) (integers : List ℕ) (g : Geometry) : Type 0 where
  pub same_kind : kind ≡ kind_of g
  pub valid : IsValidOf range g
  pub spelled : integers ≡ drawn g

-- the integers draw the geometry
abbrev pub Draws : Kind → List ℕ → Geometry → Type 0
Draws kind integers g = DrawsOf wide kind integers g
