-- What is filled by the directions of rings, where those that contain a spot don't cross (Mapbox
-- Vector Tile Specification 2.1, 4.3.4.4).
use Rattle.std.specs.Prelude.{◌≡◌, ◌≢◌, ℕ, ◌&&◌, Bool, true, false, List, filter, sum_by}
use Rattle.mvt_base.specs.Rules.{IsOneOf}
use Rattle.mvt_rings.specs.declared.nesting.Spot.{Spot}
use Rattle.mvt_rings.specs.declared.placing.Place.{Place}
use Rattle.mvt_rings.specs.declared.placing.Place.TheVariants.{Held, Apart, Unclear}
use Rattle.mvt_rings.specs.declared.rings.Kept.{Kept}
use Rattle.mvt_rings.specs.declared.rings.Ring.{Ring}
use Rattle.mvt_rings.specs.Counting.{holds}
use Rattle.mvt_rings.specs.Placing.{one_if}
use Rattle.mvt_rings.specs.Rings.{is_larger, may_hold, place}
use Rattle.mvt_rings.specs.Signs.{is_positive, is_negative}

-- how many exterior rings contain a spot, and how many interior ones
abbrev pub filled : ℕ → Spot → List Kept → ℕ
filled parts spot kept = sum_by (λ k. holds parts spot k.points) (filter (λ k. is_positive k.points) kept)

abbrev pub cut : ℕ → Spot → List Kept → ℕ
cut parts spot kept = sum_by (λ k. holds parts spot k.points) (filter (λ k. is_negative k.points) kept)

abbrev pub is_held : Place → Bool
is_held Held = true
is_held Apart = false
is_held Unclear = false

-- rings that contain a spot have area, and each is held by the larger ones that contain it alone
pub record AreNestedAt (parts : ℕ) (spot : Spot) (rings : List Ring) : Type 0 where
  pub solid : (r : Ring) → IsOneOf rings r → holds parts spot r.points ≡ 1 → r.size ≢ 0
  pub held : (o r : Ring) → IsOneOf rings o → IsOneOf rings r → holds parts spot r.points ≡ 1 → is_larger o r ≡ true
      → one_if (may_hold o r && is_held (place o r)) ≡ holds parts spot o.points
