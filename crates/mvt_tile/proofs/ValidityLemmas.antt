-- A tile with an item that can't be written is none that can.
use Rattle.std.proofs.Common.{◌≡◌, ℕ, ◌+◌, ◌↔◌, Bool, true, false, not, List, ◌∷◌, take, drop, Option, Some, None, MatchOption, IsTrue, is_some, refl, sym, subst}
use Rattle.std.specs.List.{AllByRecursion}
use Rattle.std.proofs.lemmas.Bool.{false≢true}
use Rattle.std.proofs.lemmas.Option.{slice_get_within, get_or_from_slice_get}
use Rattle.mvt_base.proofs.ListLemmas.{all_right}
use Rattle.mvt_message.specs.declared.item.Item.{Item}
use Rattle.mvt_message.specs.ValidItems.{ValidItem}
use Rattle.mvt_tile_value.specs.declared.tile.Tile.{Tile}
use Rattle.mvt_tile_value.specs.Tiles.{HasDistinctNames}
use Rattle.mvt_tile_value.specs.ValidTiles.{Valid}
use Rattle.mvt_tile.specs.Validity.{IsFirstInvalid}
use Rattle.mvt_tile.proofs.ExtractionLemmas.{at_index, distinct_not}

invalid_not : (items : List Item) (i : ℕ) → IsFirstInvalid items i → AllByRecursion ValidItem items → HasDistinctNames items → ⊥
invalid_not items i first valid names =
    let within = slice_get_within items i first.item first.there in
    let here = sym (get_or_from_slice_get items i first.item first.item first.there) in
    let parts = subst (AllByRecursion ValidItem) (at_index items i first.item within here) valid in
    let good = (all_right ValidItem (take i items) (first.item ∷ drop (i + 1) items) parts).0 in
    distinct_not items i first.item _ within here refl (first.wrong good) names

pub validated : (found : Option ℕ) (tile : Tile) (b : Bool) → is_some found ≡ not b
    → MatchOption found (Valid tile) (IsFirstInvalid tile.items) → IsTrue b ↔ Valid tile
validated None tile true is valid = (λ _. valid, λ _. refl)
validated None tile false is valid = absurd (false≢true is)
validated (Some i) tile true is first = absurd (false≢true (sym is))
validated (Some i) tile false is first =
    (λ t. absurd (false≢true t), λ valid. absurd (invalid_not tile.items i first valid.items valid.names))
