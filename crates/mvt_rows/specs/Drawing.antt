-- Geometries that are drawn from their rows. No public contract cites this.
use Rattle.std.specs.Prelude.{◌≡◌, ◌↔◌, ℕ, ◌<◌, length, Bool, true, false, List, [], ◌∷◌, ◌++◌, Option, Some, None, option_and_then, Result, Ok, Err}
use Rattle.mvt_geometry.specs.declared.strokes.RingRole.{RingRole}
use Rattle.mvt_geometry.specs.declared.strokes.RingRole.TheVariants.{First, Exterior, Interior}
use Rattle.mvt_geometry.specs.declared.shape.Geometry.{Geometry}
use Rattle.mvt_geometry.specs.declared.shape.Kind.{Kind}
use Rattle.mvt_geometry.specs.declared.shape.Point.{Point}
use Rattle.mvt_geometry.specs.declared.shape.Polygon.{Polygon}
use Rattle.mvt_geometry.specs.Area.{area2}
use Rattle.mvt_geometry.specs.Drawing.{Draws, strokes}
use Rattle.mvt_geometry.specs.Parts.{AreStrokes, HasAreaOf, HaveAreas, end_of}
use Rattle.mvt_geometry.specs.Shape.{last_of, origin, rings_of}
use Rattle.mvt_geometry.specs.Valid.{IsValid}
use Rattle.mvt_rows.specs.declared.rows.PartRow.{PartRow}
use Rattle.mvt_rows.specs.declared.undrawn.Undrawn.{Undrawn}
use Rattle.mvt_rows.specs.TileRows.{truth_of}
use Rattle.mvt_rows.specs.Undrawn.{Stroke, a_ring, parts_fault, strokes_of, undrawn_by}

-- the integers that draw the geometry of rows
abbrev pub AreDrawn : Option Geometry → Kind → List ℕ → Type 0
AreDrawn of_rows kind integers = (g : Geometry) × (of_rows ≡ Some g) × Draws kind integers g

-- rows name a geometry that no integers draw, and this is the first rule that it breaks
abbrev pub IsUndrawable : Option Geometry → Undrawn → Type 0
IsUndrawable None undrawn = ⊥
IsUndrawable (Some g) undrawn = (IsValid g → ⊥) × (undrawn_by g ≡ Some undrawn)

-- the integers that draw the geometry of rows, and its type; there is no type where none draw it
abbrev pub AreDrawnIf : Option Geometry → Result Kind Undrawn → List ℕ → Type 0
AreDrawnIf of_rows (Err undrawn) integers = IsUndrawable of_rows undrawn
AreDrawnIf of_rows (Ok kind) integers = AreDrawn of_rows kind integers

-- where the cursor stands after lines or rings
abbrev pub end_from : Point → List Stroke → Point
end_from cursor [] = cursor
end_from cursor (s ∷ parts) = end_from (last_of cursor s.points) parts

-- the first rule that parts break, or that they break none, up to a cursor
abbrev pub AreJudged : List Stroke → Result Point Undrawn → Type 0
AreJudged parts (Err undrawn) = parts_fault 0 origin parts ≡ Some undrawn
AreJudged parts (Ok cursor) = (parts_fault 0 origin parts ≡ None) × (cursor ≡ end_from origin parts)

-- the lines so far are drawn up to a cursor; there is none where they can't be
abbrev pub DrawnLines : List (List Point) → Result Point Undrawn → List ℕ → Type 0
DrawnLines lines (Err undrawn) integers = AreStrokes 2 lines → ⊥
DrawnLines lines (Ok cursor) integers = AreStrokes 2 lines × (cursor ≡ end_of lines) × (integers ≡ strokes [] origin lines)

-- the polygons so far, as well
abbrev pub DrawnPolygons : List Polygon → Result Point Undrawn → List ℕ → Type 0
DrawnPolygons polygons (Err undrawn) integers = AreStrokes 3 (rings_of polygons) → HaveAreas polygons → ⊥
DrawnPolygons polygons (Ok cursor) integers =
    AreStrokes 3 (rings_of polygons) × HaveAreas polygons × (cursor ≡ end_of (rings_of polygons))
    × (integers ≡ strokes (15 ∷ []) origin (rings_of polygons))

-- what an exterior ring or another is, behind a polygon or before all
abbrev pub ring_role : Bool → Bool → Option RingRole
ring_role true false = Some First
ring_role true true = Some Exterior
ring_role false true = Some Interior
ring_role false false = None

abbrev pub role_of : PartRow → Bool → Option RingRole
role_of row begun = option_and_then (λ exterior. ring_role exterior begun) (truth_of row.exterior)

-- these polygons are the ones before with one ring more
pub record IsFollowedBy (role : RingRole) (before : List Polygon) (ring : List Point) (now : List Polygon) : Type 0 where
  pub rings : rings_of now ≡ rings_of before ++ ring ∷ []
  pub areas : HaveAreas now ↔ (HaveAreas before × HasAreaOf role (area2 ring))
  pub parts : strokes_of now ≡ strokes_of before ++ a_ring role ring ∷ []

-- whether there is a polygon
abbrev pub HasBegun : Bool → List Polygon → Type 0
HasBegun true polygons = 0 < length polygons
HasBegun false polygons = polygons ≡ []
