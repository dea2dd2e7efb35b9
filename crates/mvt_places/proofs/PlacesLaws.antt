-- What the public law states, for the proofs of the crates above: a lemma for each clause.
use Rattle.std.specs.Prelude.{◌≡◌, ℕ, List, length, Some}
use Rattle.mvt_base.specs.declared.TheConstants.{LIMIT}
use Rattle.mvt_tile.specs.declared.fault.Fault.{Fault}
use Rattle.mvt_tile.specs.TileRules.{fault_within}
use Rattle.mvt_places.specs.Places.{place_at}
use Rattle.mvt_places.specs.Spans.{EndsBelow}
pub use Rattle.mvt_places.proofs.AroundLemmas.{integers_are_spelled}
pub use Rattle.mvt_places.proofs.ThereLemmas.{first_layer_there, first_feature_there}
pub use Rattle.mvt_places.proofs.WithinLemmas.{place_within as place_lies_any}
use Rattle.mvt_places.proofs.WithinLemmas.{place_within}

pub place_lies_first : (input : List ℕ) (fault : Fault) → fault_within LIMIT input ≡ Some fault
    → EndsBelow (length input) (place_at LIMIT input fault)
place_lies_first input fault is = place_within LIMIT input fault
