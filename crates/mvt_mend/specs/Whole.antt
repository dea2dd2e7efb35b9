-- What the changes of a geometry tell: every point and every ring (Mapbox Vector Tile Specification
-- 2.1, 4.3.3.2 and 4.3.4.4).
use Rattle.std.specs.Prelude.{◌≡◌, ◌≢◌, ℕ, nat_lt, Bool, true, ◌&&◌, ◌||◌, List, [], slice_get, slice_index_or, count_by, Some, ◌+◌, ◌<◌, length}
use Rattle.std.specs.List.{AllByRecursion}
use Rattle.mvt_wire.specs.Split.{split}
use Rattle.mvt_feature.specs.FeatureRules.{kind_in}
use Rattle.mvt_mend.specs.Drawing.{closing}
use Rattle.mvt_geometry.specs.Shape.{origin}
use Rattle.mvt_geometry.specs.Drawing.{strokes}
use Rattle.mvt_mend.specs.Spelling.{has_rings}
use Rattle.mvt_mend.specs.Geometry.{points_of}
use Rattle.mvt_mend.specs.Changes.{count_points}
use Rattle.mvt_mend.specs.Features.{integers_of, mended_integers}
use Rattle.mvt_rings.specs.declared.rings.Kept.{Kept}
use Rattle.mvt_geometry.specs.declared.shape.Point.{Point}
use Rattle.mvt_mend.specs.declared.geometry.Remade.{Remade}
use Rattle.mvt_mend.specs.declared.change.Change.{Change}
use Rattle.mvt_mend.specs.declared.change.Change.TheVariants.{TurnedRing, RepeatedPoint, PartLeftOut, FeatureLeftOut, MovedRing}
use Rattle.mvt_rings.specs.Signs.{is_positive, is_negative}

-- how many points a change says are left out
abbrev pub points_gone : Change → ℕ
points_gone (TurnedRing layer feature ring) = 0
points_gone (RepeatedPoint layer feature part count) = count
points_gone (PartLeftOut layer feature part count) = count
points_gone (FeatureLeftOut layer feature count) = count
points_gone (MovedRing layer feature ring to) = 0

-- two rings have areas of opposite signs
abbrev pub are_opposite : List Point → List Point → Bool
are_opposite old new = (is_positive old && is_negative new) || (is_negative old && is_positive new)

-- the part that stood at one index stays, and stands at another
pub record StandsAt (remade : Remade) (i j : ℕ) (part : Kept) : Type 0 where
  pub there : slice_get remade.kept j ≡ Some part
  pub index : part.index ≡ i

-- the ring of an index stays, and its area has the other sign
abbrev pub HasTurned : Remade → ℕ → Type 0
HasTurned remade i =
    (j : ℕ) × (ring : Kept) × StandsAt remade i j ring × (are_opposite (slice_index_or remade.parts i []) ring.points ≡ true)

-- how many of the parts before an index stay
abbrev pub staying_before : Remade → ℕ → ℕ
staying_before remade i = count_by (λ k. nat_lt k.index i) remade.kept

-- the ring of an index stays, and stands elsewhere than behind those before it that stay
abbrev pub HasMoved : Remade → ℕ → ℕ → Type 0
HasMoved remade i j = (ring : Kept) × StandsAt remade i j ring × (j ≢ staying_before remade i)

-- the part of an index doesn't stay, and had so many points
pub record HasGone (remade : Remade) (i count : ℕ) : Type 0 where
  pub within : i < length remade.parts
  pub gone : AllByRecursion (λ (k : Kept). k.index ≢ i) remade.kept
  pub points : length (slice_index_or remade.parts i []) ≡ count

-- the part of an index stays, with so many points less
pub record HasFewer (remade : Remade) (i count : ℕ) : Type 0 where
  pub to : ℕ
  pub part : Kept
  pub stands : StandsAt remade i to part
  pub some : 0 < count
  pub points : length part.points + count ≡ length (slice_index_or remade.parts i [])

-- the feature doesn't stay, and had so many points
abbrev pub HasLeft : Remade → ℕ → Type 0
HasLeft remade count = (remade.integers ≡ []) × (count_points remade.parts ≡ count)

-- a feature's integers spell the parts that it had, and those in their place the parts that stay
pub record SpellsBoth (payload : List ℕ) (remade : Remade) : Type 0 where
  pub integers : List ℕ
  pub read : integers_of payload ≡ Some integers
  pub old : integers ≡ strokes (closing (has_rings (kind_in (split payload).fields))) origin remade.parts
  pub made : mended_integers payload ≡ Some remade.integers
  pub new : remade.integers ≡ strokes (closing (has_rings (kind_in (split payload).fields))) origin (points_of remade.kept)
