-- What the public laws state, for the proofs of the crates above: a lemma for each clause.
pub use Rattle.mvt_tile_value.proofs.ModelLaws.{canonical_reads as one_tile_reads}
pub use Rattle.mvt_tile.proofs.OneNameLemmas.{first_named as one_of_a_name_one, none_named as one_of_a_name_nothing}
pub use Rattle.mvt_tile.proofs.NameLemmas.{distinct_none as names_apart_nothing, distinct_more as names_apart_more, distinct_before as names_apart_before}
pub use Rattle.mvt_tile.proofs.TileLemmas.{tile_ordered as fault_is_least_ordered}
use Rattle.mvt_tile.specs.FaultPlaces.{StandsIn}
use Rattle.mvt_tile.proofs.FaultPlaceLemmas.{layer_there}
use Rattle.mvt_wire.specs.Split.{split}
use Rattle.std.proofs.Common.{subst, sym}
use Rattle.std.specs.Prelude.{List, None, Some, false, length, take, ℕ, ◌++◌, ◌<◌, ◌↔◌, ◌≡◌, ◌≤◌}
use Rattle.mvt_base.proofs.ListLemmas.{all_weaker}
use Rattle.mvt_base.specs.declared.TheConstants.{LIMIT}
use Rattle.mvt_base.specs.Rules.{IsLeast}
use Rattle.mvt_message.proofs.MessageLaws.{old_items_stay}
use Rattle.mvt_message.specs.ValidItems.{ValidItem, WasValidItem}
use Rattle.mvt_tile.specs.declared.fault.Fault.{Fault}
use Rattle.mvt_tile_value.specs.declared.tile.Tile.{Tile}
use Rattle.mvt_tile.specs.Faults.{is_open}
use Rattle.mvt_tile.specs.TileRules.{tile_rules, fault_within}
use Rattle.mvt_tile_value.specs.CanonicalTiles.{canonical}
use Rattle.mvt_tile_value.specs.Tiles.{IsTile}
use Rattle.mvt_tile_value.specs.ValidTiles.{Valid, WasValid}
use Rattle.mvt_tile.proofs.StreamLemmas.{fault_stays as it_stays, fault_past_limit as past_limit}
use Rattle.mvt_tile.proofs.TileLemmas.{tile_there, tile_clean, tile_once, tile_least}

pub one_tile_one : (s t : Tile) → Valid s → Valid t → length (canonical s) ≤ LIMIT → canonical s ≡ canonical t → s ≡ t
one_tile_one s t valid_s valid_t small same =
    tile_once LIMIT (canonical s) s t (one_tile_reads s valid_s small)
    (subst (λ b. IsTile LIMIT b t) (sym same) (one_tile_reads t valid_t (subst (λ b. length b ≤ LIMIT) same small)))

pub fault_stays : (s more : List ℕ) (f : Fault) → fault_within LIMIT s ≡ Some f → is_open f ≡ false
    → fault_within LIMIT (s ++ more) ≡ Some f
fault_stays = it_stays LIMIT

pub fault_past_limit : (s : List ℕ) → LIMIT < length s
    → (f : Fault) × (fault_within LIMIT s ≡ Some f) × (is_open f ≡ false)
fault_past_limit = past_limit LIMIT

pub layer_of_a_fault : (limit : ℕ) (input : List ℕ) (fault : Fault) (n : ℕ) → fault_within limit input ≡ Some fault → fault.layer ≡ Some n
    → StandsIn (split (take limit input)).fields n fault
layer_of_a_fault limit input fault n is at = layer_there fault n at limit input is

pub tile_or_fault_there : (b : List ℕ) → fault_within LIMIT b ≡ None → (tile : Tile) × IsTile LIMIT b tile
tile_or_fault_there = tile_there LIMIT

pub tile_or_fault_clean : (b : List ℕ) (tile : Tile) → IsTile LIMIT b tile → fault_within LIMIT b ≡ None
tile_or_fault_clean = tile_clean LIMIT

pub tile_or_fault_once : (b : List ℕ) (s t : Tile) → IsTile LIMIT b s → IsTile LIMIT b t → s ≡ t
tile_or_fault_once = tile_once LIMIT

pub fault_is_least_least : (b : List ℕ) (f : Fault) → length b ≤ LIMIT
    → (fault_within LIMIT b ≡ Some f) ↔ IsLeast (tile_rules b) f
fault_is_least_least = tile_least LIMIT

pub old_tiles_stay : (t : Tile) → WasValid t → Valid t
old_tiles_stay t was = record { items = all_weaker WasValidItem ValidItem old_items_stay t.items was.items; names = was.names }
