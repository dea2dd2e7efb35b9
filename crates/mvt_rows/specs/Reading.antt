-- What is read as rows.
use Rattle.std.specs.Prelude.{◌≡◌, ℕ, ◌<◌, List, [], ◌∷◌, length, Some}
use Rattle.mvt_base.specs.declared.TheConstants.{LIMIT}
use Rattle.mvt_wire.specs.Field.{Entry}
use Rattle.mvt_message.specs.declared.item.Item.{Item}
use Rattle.mvt_message.specs.Items.{IsItem}
use Rattle.mvt_tile_value.specs.declared.tile.Tile.{Tile}
use Rattle.mvt_tile_value.specs.CanonicalTiles.{canonical}
use Rattle.mvt_tile_value.specs.Tiles.{IsTile}
use Rattle.mvt_tile_value.specs.ValidTiles.{Valid}
use Rattle.mvt_tile.specs.NamedLayer.{first_in}
use Rattle.mvt_tile.specs.TileRules.{payload_of}
use Rattle.mvt_rows.specs.ReadTables.{read_table, with_item}
use Rattle.mvt_rows.specs.Tables.{Table, no_rows, table_size}
use Rattle.mvt_rows.specs.TileRows.{IsTileOf}

-- the bytes are a tile, and these are its canonical bytes
abbrev pub IsRewritten : List ℕ → List ℕ → Type 0
IsRewritten input made = (tile : Tile) × IsTile LIMIT input tile × (made ≡ canonical tile)

-- the bytes are a tile whose canonical bytes are more than the limit
abbrev pub IsTooLarge : List ℕ → Type 0
IsTooLarge input = (tile : Tile) × IsTile LIMIT input tile × (LIMIT < length (canonical tile))

-- the bytes are a tile, which can be written, and the rows are that tile, as they are read of these bytes
abbrev pub IsRead : List ℕ → Table → Type 0
IsRead input table =
    (tile : Tile) × IsTile LIMIT input tile × Valid tile × IsTileOf table tile × (table ≡ read_table input tile)

-- the first layer of this name can be read, and the rows are that layer alone, as they are read of its bytes
abbrev pub IsLayerRead : List ℕ → List ℕ → Table → Type 0
IsLayerRead name input table =
    (found : ℕ × Entry) × (item : Item) × (first_in name input ≡ Some found) × IsItem (payload_of found.1) item
    × IsTileOf table (record { items = item ∷ [] }) × (table ≡ with_item no_rows (payload_of found.1) item)

-- the bytes are a tile, whose rows have more bytes than these
abbrev pub IsReadPast : List ℕ → ℕ → Type 0
IsReadPast input most = (tile : Tile) × IsTile LIMIT input tile × Valid tile × (most < table_size (read_table input tile))
