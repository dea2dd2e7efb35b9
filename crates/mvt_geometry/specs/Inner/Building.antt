-- What the builder is given, which the judge has accepted.
use Rattle.std.specs.Prelude.{◌≡◌, ℕ, ◌<◌, List, [], ◌∷◌, ◌++◌, length}
use Rattle.std.specs.List.{AllByRecursion}
use Rattle.mvt_geometry.specs.declared.shape.Point.{Point}
use Rattle.mvt_geometry.specs.Shape.{IsPlace, origin}
use Rattle.mvt_geometry.specs.Valid.{IsStroke}
use Rattle.mvt_geometry.specs.Drawing.{stroke, strokes}

-- positions that fit in their range
abbrev pub ArePlaces : List Point → Type 0
ArePlaces points = AllByRecursion IsPlace points

-- a line stands in front
pub record IsFront (from : Point) (ints : List ℕ) (line : List Point) (more : List ℕ) : Type 0 where
  pub is : IsStroke 2 line
  pub spelled : ints ≡ stroke [] from line ++ more

-- the integers spell lines, each ended in the same way
pub record SpellLines (end : List ℕ) (from : Point) (ints : List ℕ) (lines : List (List Point)) : Type 0 where
  pub are : AllByRecursion (IsStroke 2) lines
  pub spelled : ints ≡ strokes end from lines

-- the integers spell rings, one at least
pub record SpellRings (ints : List ℕ) (rings : List (List Point)) : Type 0 where
  pub lines : SpellLines (15 ∷ []) origin ints rings
  pub some : 0 < length rings
