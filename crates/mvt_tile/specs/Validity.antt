-- What keeps a tile from being written.
use Rattle.std.specs.Prelude.{◌≡◌, ℕ, true, List, take, slice_get, Some}
use Rattle.std.specs.List.{AllByRecursion, flat_map}
use Rattle.mvt_message.specs.declared.item.Item.{Item}
use Rattle.mvt_message.specs.Items.{names_in}
use Rattle.mvt_message.specs.ValidItems.{ValidItem}
use Rattle.mvt_tile_value.specs.Tiles.{HasDistinctNames}
use Rattle.mvt_tile.specs.TileRules.{repeats}

-- the first item of a tile that can't be written with those before it: it isn't valid, or has the name of one of them
pub record IsFirstInvalid (items : List Item) (i : ℕ) : Type 0 where
  pub item : Item
  pub there : slice_get items i ≡ Some item
  pub valid : AllByRecursion ValidItem (take i items)
  pub distinct : HasDistinctNames (take i items)
  pub wrong : ValidItem item → repeats (flat_map names_in (take i items)) (names_in item) ≡ true
