-- The parts of a geometry, one after the other (Mapbox Vector Tile Specification 2.1, 4.3.4).
use Rattle.std.specs.Prelude.{ℕ, ℤ, pos, ◌≤ℤ◌, ◌<ℤ◌, List, [], ◌∷◌, ⊤}
use Rattle.std.specs.List.{AllByRecursion}
use Rattle.mvt_geometry.specs.declared.shape.Point.{Point}
use Rattle.mvt_geometry.specs.declared.shape.Polygon.{Polygon}
use Rattle.mvt_geometry.specs.declared.strokes.RingRole.{RingRole}
use Rattle.mvt_geometry.specs.declared.strokes.RingRole.TheVariants.{First, Exterior, Interior}
use Rattle.mvt_geometry.specs.Area.{area2}
use Rattle.mvt_geometry.specs.Shape.{AreSteps, joined, last_of, origin}
use Rattle.mvt_geometry.specs.Valid.{AreInner, IsStroke}

-- 4.3.4.4: twice the area that a ring of this role may have
abbrev pub HasAreaOf : RingRole → ℤ → Type 0
HasAreaOf First area = pos 0 ≤ℤ area
HasAreaOf Exterior area = pos 0 <ℤ area
HasAreaOf Interior area = area ≤ℤ pos 0

-- a line or a ring that can be drawn from a cursor
abbrev pub IsStrokeFrom : ℕ → Point → List Point → Type 0
IsStrokeFrom least cursor points = IsStroke least points × AreSteps cursor points

-- lines or rings that can be drawn one after the other
pub record AreStrokes (least : ℕ) (lines : List (List Point)) : Type 0 where
  pub are : AllByRecursion (IsStroke least) lines
  pub steps : AreSteps origin (joined lines)

-- 4.3.3: the cursor after lines
abbrev pub end_of : List (List Point) → Point
end_of lines = last_of origin (joined lines)

-- 4.3.4.4: the rings of polygons have the areas that exterior and interior rings have; that of the first ring may be none
abbrev pub HaveAreas : List Polygon → Type 0
HaveAreas [] = ⊤
HaveAreas (p ∷ polygons) =
    (pos 0 ≤ℤ area2 p.outer) × AreInner p.rest × AllByRecursion (λ q. (pos 0 <ℤ area2 q.outer) × AreInner q.rest) polygons
