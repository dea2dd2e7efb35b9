-- A geometry mended (Mapbox Vector Tile Specification 2.1, 4.3.3.2 and 4.3.4.4).
use Rattle.std.specs.Prelude.{ℕ, Bool, true, false, if◌then◌else◌, ◌||◌, is_none, List, map, Option, Some, None, Result, Ok, Err}
use Rattle.mvt_wire.specs.Packed.{is_nil}
use Rattle.mvt_geometry.specs.declared.shape.Point.{Point}
use Rattle.mvt_geometry.specs.declared.shape.Kind.{Kind}
use Rattle.mvt_geometry.specs.declared.shape.Kind.TheVariants as kinds
use Rattle.mvt_geometry.specs.Table.{geometry_fault}
use Rattle.mvt_rings.specs.declared.rings.Kept.{Kept}
use Rattle.mvt_rings.specs.declared.holding.Crossing.{Crossing}
use Rattle.mvt_rings.specs.Mending.{mended_lines, mended_rings, mending_steps}
use Rattle.mvt_mend.specs.declared.geometry.Outcome.{Outcome}
use Rattle.mvt_mend.specs.declared.geometry.Outcome.TheVariants.{Stays, Crosses, Becomes}
use Rattle.mvt_mend.specs.Reading.{parts_in}
use Rattle.mvt_mend.specs.Drawing.{drawn_parts}

-- the integers draw a geometry
unfoldable pub is_faultless : Kind → List ℕ → Bool
is_faultless kind ints = is_none (geometry_fault kind ints)

-- lines or rings mended, or two rings that cross
abbrev pub kept_in : Bool → List (List Point) → Result (List Kept) Crossing
kept_in false parts = Ok (mended_lines parts)
kept_in true parts = mended_rings parts

abbrev pub points_of : List Kept → List (List Point)
points_of kept = map (λ k. k.points) kept

-- what these integers come to that were drawn anew: they are none, or draw a geometry
abbrev pub if_drawn : Kind → List (List Point) → List Kept → Option (List ℕ) → Outcome
if_drawn kind parts kept None = Stays
if_drawn kind parts kept (Some ints) =
    if is_nil ints || is_faultless kind ints then Becomes (record { parts = parts; kept = kept; integers = ints }) else Stays

abbrev pub if_kept : Kind → Bool → List (List Point) → Result (List Kept) Crossing → Outcome
if_kept kind ring parts (Ok kept) = if_drawn kind parts kept (drawn_parts ring (points_of kept))
if_kept kind ring parts (Err crossing) = Crosses crossing

abbrev pub if_read : Kind → Bool → Option (List (List Point)) → Outcome
if_read kind ring None = Stays
if_read kind ring (Some parts) = if_kept kind ring parts (kept_in ring parts)

-- what comes of the integers of lines or rings, which stay if they draw a geometry
unfoldable pub outcome_as : Kind → Bool → List ℕ → Outcome
outcome_as kind ring ints = if is_faultless kind ints then Stays else if_read kind ring (parts_in ring ints)

-- what comes of the integers of a geometry
unfoldable pub outcome : Kind → List ℕ → Outcome
outcome kinds.Unknown ints = Stays
outcome kinds.Point ints = Stays
outcome kinds.LineString ints = outcome_as kinds.LineString false ints
outcome kinds.Polygon ints = outcome_as kinds.Polygon true ints

-- the integers that stand in place of others
abbrev pub new_integers : Outcome → Option (List ℕ)
new_integers Stays = None
new_integers (Crosses crossing) = None
new_integers (Becomes remade) = Some remade.integers

-- the integers that stand in place of those of a geometry; none at all where its feature is left out
abbrev pub mended_geometry : Kind → List ℕ → Option (List ℕ)
mended_geometry kind ints = new_integers (outcome kind ints)

-- the steps that telling rings takes
abbrev pub steps_read : Option (List (List Point)) → ℕ
steps_read None = 0
steps_read (Some rings) = mending_steps rings

unfoldable pub geometry_steps : Kind → List ℕ → ℕ
geometry_steps kinds.Unknown ints = 0
geometry_steps kinds.Point ints = 0
geometry_steps kinds.LineString ints = 0
geometry_steps kinds.Polygon ints = if is_faultless kinds.Polygon ints then 0 else steps_read (parts_in true ints)
