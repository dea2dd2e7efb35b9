-- The tiles that can be written.
use Rattle.std.specs.List.{AllByRecursion}
use Rattle.mvt_message.specs.ValidItems.{ValidItem, WasValidItem}
use Rattle.mvt_tile_value.specs.declared.tile.Tile.{Tile}
use Rattle.mvt_tile_value.specs.Tiles.{HasDistinctNames}

pub record Valid (tile : Tile) : Type 0 where
  pub items : AllByRecursion ValidItem tile.items
  pub names : HasDistinctNames tile.items

-- valid with positions in the first, narrower range
pub record WasValid (tile : Tile) : Type 0 where
  pub items : AllByRecursion WasValidItem tile.items
  pub names : HasDistinctNames tile.items
