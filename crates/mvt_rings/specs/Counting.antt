-- What can be counted of rings, and in how many a spot lies: even-odd counting.
use Rattle.std.specs.Prelude.{◌≡◌, ℕ, ◌+◌, ◌%◌, ◌<◌, List, [], ◌∷◌, length}
use Rattle.mvt_geometry.specs.declared.shape.Point.{Point}
use Rattle.mvt_rings.specs.declared.nesting.Spot.{Spot}
use Rattle.mvt_rings.specs.declared.nesting.Edge.{Edge}
use Rattle.mvt_rings.specs.Repeats.{without_repeats}
use Rattle.mvt_rings.specs.Turning.{turned}
use Rattle.mvt_rings.specs.Nesting.{edges_of, is_crossed}
use Rattle.mvt_rings.specs.Placing.{one_if}

-- a number that a ring has whatever its direction, with repeated points or without them; what has too few points has 0
pub record IsCount (count : List Point → ℕ) : Type 0 where
  pub turns : (ring : List Point) → count (turned ring) ≡ count ring
  pub repeats : (ring : List Point) → count (without_repeats ring) ≡ count ring
  pub short : (ring : List Point) → length ring < 3 → count ring ≡ 0

-- how many of these edges cross the ray that goes from a spot to greater x
abbrev pub crossings : ℕ → Spot → List Edge → ℕ
crossings parts p [] = 0
crossings parts p (e ∷ edges) = one_if (is_crossed parts p e) + crossings parts p edges

-- 1 where a spot lies in a ring, by what is crossed alone: an odd number of its edges; else 0
abbrev pub holds : ℕ → Spot → List Point → ℕ
holds parts p ring = crossings parts p (edges_of ring) % 2
