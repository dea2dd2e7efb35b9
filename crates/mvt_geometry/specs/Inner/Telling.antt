-- What a walk over packed bytes has told a visitor.
use Rattle.std.specs.Prelude.{◌≡◌, ℕ, ℤ, ◌+◌, ◌*◌, ◌^◌, ◌<◌, ◌≤◌, Bool, false, List, [], ◌∷◌, ◌++◌, length}
use Rattle.std.specs.Int.RustNames.{unsigned_abs}
use Rattle.mvt_geometry.specs.declared.shape.Point.{Point}
use Rattle.mvt_geometry.specs.Area.{area2}
use Rattle.mvt_geometry.specs.Drawing.{Draws, path_from, stroke, strokes}
use Rattle.mvt_geometry.specs.Rings.{is_closed}
use Rattle.mvt_geometry.specs.Parts.{AreStrokes, IsStrokeFrom, end_of}
use Rattle.mvt_geometry.specs.Shape.{origin, last_of}
use Rattle.mvt_geometry.specs.Visiting.{Part, HasDrawn}
use Rattle.mvt_geometry.specs.declared.shape.Geometry.{Geometry}
use Rattle.mvt_geometry.specs.declared.shape.Kind.{Kind}
use Rattle.mvt_geometry.specs.Inner.Judging.{edges}
use Rattle.mvt_geometry.specs.Inner.Validity.{IsStepTo, IsPath}

-- since it was in the first state a visitor was told the geometry that integers draw
abbrev pub HasDrawnFrom : {I V : Type 0} → (I → List ℕ → Type 0) → (V → List Part → List Point → V → Type 0) → (V → List ℕ → V → Type 0)
    → V → V → Kind → I → Type 0
HasDrawnFrom Are HasParts HasIntegers start now kind integers =
    (ints : List ℕ) × Are integers ints × (g : Geometry) × Draws kind ints g × HasDrawn HasParts HasIntegers start now g

-- these integers are spelled in front, and then the bytes behind
pub record SpellsFront {I : Type 0} (Are : I → List ℕ → Type 0) (bytes : I) (ints : List ℕ) (after : I) : Type 0 where
  pub joins : (more : List ℕ) → Are after more → Are bytes (ints ++ more)

-- a visitor was told these points more of the part that was begun
pub record WasTold {V : Type 0} (HasParts : V → List Part → List Point → V → Type 0) (old : V) (points : List Point) (new : V) : Type 0
  where
    pub told : (start : V) (parts : List Part) (begun : List Point) → HasParts start parts begun old
        → HasParts start parts (begun ++ points) new

-- a pair in front leads to a point
pub record IsPair {I : Type 0} (Are : I → List ℕ → Type 0) (is_line : Bool) (from to : Point) (bytes after : I) : Type 0 where
  pub step : IsStepTo is_line from to
  pub spelled : SpellsFront Are bytes (path_from from (to ∷ [])) after

-- the pairs in front lead over these points
pub record ArePairs {I : Type 0} (Are : I → List ℕ → Type 0) (is_line : Bool) (from : Point) (bytes after : I) (count : ℕ) (end : Point) (area : ℤ)
    (points : List Point) : Type 0 where
  pub is : IsPath is_line from points
  pub spelled : SpellsFront Are bytes (path_from from points) after
  pub long : length points ≡ count
  pub end_is : end ≡ last_of from points
  pub area_is : area ≡ edges from points
  pub small : unsigned_abs area ≤ count * 2 ^ 63

-- a MoveTo in front leads to a point, and a LineTo has so many pairs
pub record IsHead {I : Type 0} (Are : I → List ℕ → Type 0) (least : ℕ) (from head : Point) (count : ℕ) (bytes after : I) : Type 0 where
  pub step : IsStepTo false from head
  pub enough : least ≤ count + 1
  pub few : count < 2 ^ 29
  pub spelled : SpellsFront Are bytes (9 ∷ (path_from from (head ∷ []) ++ (2 + 8 * count) ∷ [])) after

-- a line or ring in front
pub record IsLine {I : Type 0} (Are : I → List ℕ → Type 0) (least : ℕ) (close : List ℕ) (from : Point) (bytes after : I) (count : ℕ) (end : Point) (area : ℤ) (closed : Bool)
    (line : List Point) : Type 0 where
  pub is : IsStrokeFrom least from line
  pub spelled : SpellsFront Are bytes (stroke close from line) after
  pub long : count ≡ length line
  pub end_is : end ≡ last_of from line
  pub area_is : area ≡ area2 line
  pub closed_is : closed ≡ is_closed line

-- the lines or rings in front of the rest, at least one of them if none is left
pub record AreInFront {I : Type 0} (Are : I → List ℕ → Type 0) (size : I → ℕ) (least : ℕ) (close : List ℕ) (bytes rest : I) (cursor : Point) (lines : List (List Point)) : Type 0 where
  pub are : AreStrokes least lines
  pub spelled : SpellsFront Are bytes (strokes close origin lines) rest
  pub cursor_is : cursor ≡ end_of lines
  pub some : 0 < size rest + length lines

-- the next ring is the first one
abbrev pub is_still_first : Bool → List (List Point) → Bool
is_still_first is_first [] = is_first
is_still_first is_first (ring ∷ rings) = false
