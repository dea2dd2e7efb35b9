-- Where rings come from that stay.
use Rattle.std.specs.Prelude.{◌≡◌, ℕ, ◌<◌, ◌⊎◌, List, [], length, slice_index_or}
use Rattle.mvt_geometry.specs.declared.shape.Point.{Point}
use Rattle.mvt_rings.specs.declared.rings.Kept.{Kept}
use Rattle.mvt_rings.specs.Repeats.{without_repeats, opened}
use Rattle.mvt_rings.specs.Turning.{turned}

-- the ring at an index, without repeated points
abbrev pub ring_at : List (List Point) → ℕ → List Point
ring_at rings n = without_repeats (slice_index_or rings n [])

-- the points of a ring, as they stood, without last points that equal the first, or in the other direction
abbrev pub IsToldFrom : List Point → List Point → Type 0
IsToldFrom ring points = (points ≡ ring) ⊎ ((points ≡ opened ring) ⊎ (points ≡ turned ring))

-- a ring that stays is, without repeated points, that of its index
abbrev pub ComesFrom : List (List Point) → Kept → Type 0
ComesFrom rings k = (k.index < length rings) × IsToldFrom (ring_at rings k.index) k.points
