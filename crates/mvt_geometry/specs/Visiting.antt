-- What a visitor is told of a geometry (Mapbox Vector Tile Specification 2.1, 4.3.4).
use Rattle.std.specs.Prelude.{◌≡◌, ℕ, Bool, true, false, List, [], ◌∷◌, length, map, Option, Some, None}
use Rattle.std.specs.List.{flat_map}
use Rattle.mvt_geometry.specs.declared.shape.Point.{Point}
use Rattle.mvt_geometry.specs.declared.shape.Polygon.{Polygon}
use Rattle.mvt_geometry.specs.declared.shape.Geometry.{Geometry}
use Rattle.mvt_geometry.specs.declared.shape.Geometry.TheVariants.{Unknown, Points, Lines, Polygons}
use Rattle.mvt_geometry.specs.declared.shape.Kind.{Kind}
use Rattle.mvt_geometry.specs.Drawing.{Draws}
use Rattle.mvt_wire.specs.Packed.{ArePacked}
use Rattle.mvt_geometry.specs.declared.visiting.Ring.{Ring}
use Rattle.mvt_geometry.specs.Area.{area2}
use Rattle.mvt_geometry.specs.Rings.{is_closed}

-- a line, a ring, or all points of a feature of points; an exterior ring begins a polygon
pub record Part : Type 0 where
  pub ring : Bool
  pub exterior : Bool
  pub points : List Point

-- a line, or the points of a feature of points
abbrev pub plain : List Point → Part
plain points = record { ring = false; exterior = false; points = points }

abbrev pub ring_part : Bool → List Point → Part
ring_part exterior points = record { ring = true; exterior = exterior; points = points }

-- 4.3.4.4: the rings of a polygon
abbrev pub ring_parts : Polygon → List Part
ring_parts p = ring_part true p.outer ∷ map (ring_part false) p.rest

-- what is told at the end of a part: how many points it has, and what is known of a ring
abbrev pub EndsAs : Part → ℕ → Option Ring → Type 0
EndsAs part count None = (count ≡ length part.points) × (part.ring ≡ false) × (part.exterior ≡ false)
EndsAs part count (Some known) =
    (count ≡ length part.points) × (part.ring ≡ true) × (part.exterior ≡ known.exterior)
    × (known.twice_area ≡ area2 part.points) × (known.is_closed ≡ is_closed part.points)

-- the parts of a geometry, in the order in which they are drawn; one of unknown type has none
abbrev pub parts_of : Geometry → List Part
parts_of (Unknown integers) = []
parts_of (Points points) = plain points ∷ []
parts_of (Lines lines) = map plain lines
parts_of (Polygons polygons) = flat_map ring_parts polygons

-- since it was in the first state a visitor was told this geometry: its parts, or its integers where it has no type
abbrev pub HasDrawn : {V : Type 0} → (V → List Part → List Point → V → Type 0) → (V → List ℕ → V → Type 0) → V → V → Geometry → Type 0
HasDrawn HasParts HasIntegers start now (Unknown integers) = HasIntegers start integers now
HasDrawn HasParts HasIntegers start now (Points points) = HasParts start (parts_of (Points points)) [] now
HasDrawn HasParts HasIntegers start now (Lines lines) = HasParts start (parts_of (Lines lines)) [] now
HasDrawn HasParts HasIntegers start now (Polygons polygons) = HasParts start (parts_of (Polygons polygons)) [] now

-- and the integers that draw it are those of these packed bytes
abbrev pub HasDrawnPacked : {V : Type 0} → (V → List Part → List Point → V → Type 0) → (V → List ℕ → V → Type 0) → V → V → Kind → List ℕ
    → Type 0
HasDrawnPacked HasParts HasIntegers start now kind bytes =
    (ints : List ℕ) × ArePacked bytes ints × (g : Geometry) × Draws kind ints g × HasDrawn HasParts HasIntegers start now g
