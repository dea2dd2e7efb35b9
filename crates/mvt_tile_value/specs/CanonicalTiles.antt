-- The bytes that a tile is written as: its items in order, each a field of number LAYERS, with shortest spellings.
use Rattle.std.specs.Prelude.{ℕ, List, map}
use Rattle.mvt_wire.specs.Field.{bytes}
use Rattle.mvt_wire.specs.Spelling.{Plain, spelled}
use Rattle.mvt_message.specs.declared.item.Item.{Item}
use Rattle.mvt_message.specs.CanonicalItems.{canonical_item}
use Rattle.mvt_tile_value.specs.declared.numbers.tile.TheConstants.{LAYERS}
use Rattle.mvt_tile_value.specs.declared.tile.Tile.{Tile}

abbrev pub item_field : Item → Plain
item_field item = record { number = LAYERS; content = bytes (canonical_item item) }

unfoldable pub canonical : Tile → List ℕ
canonical tile = spelled (map item_field tile.items)
