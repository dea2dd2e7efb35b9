-- The grammar of a tile (Mapbox Vector Tile Specification 2.1, 4.1, message Tile).
use Rattle.std.specs.Prelude.{◌≡◌, ◌≢◌, ◌==◌, ℕ, ◌≤◌, List, [], ◌∷◌, length, AllPairs, if◌then◌else◌}
use Rattle.std.specs.List.{flat_map}
use Rattle.mvt_base.specs.Related.{AreRelated}
use Rattle.mvt_wire.specs.Field.{bytes, Entry}
use Rattle.mvt_wire.specs.Split.{Whole}
use Rattle.mvt_message.specs.declared.item.Item.{Item}
use Rattle.mvt_message.specs.Items.{IsItem, names_in}
use Rattle.mvt_tile_value.specs.declared.numbers.tile.TheConstants.{LAYERS}
use Rattle.mvt_tile_value.specs.declared.tile.Tile.{Tile}

-- the fields that hold layers
abbrev pub layers_of : List Entry → List Entry
layers_of [] = []
layers_of (x ∷ xs) = if x.number == LAYERS then x ∷ layers_of xs else layers_of xs

-- the field holds bytes that are this item
abbrev pub HoldsItem : Entry → Item → Type 0
HoldsItem x item = (d : List ℕ) × (x.content ≡ bytes d) × IsItem d item

-- no two layers of version 2 have one name
abbrev pub HasDistinctNames : List Item → Type 0
HasDistinctNames items = AllPairs (λ a b. a ≢ b) (flat_map names_in items)

-- the fields are these layers, one by one
pub record AreItems (fields : List Entry) (items : List Item) : Type 0 where
  pub held : AreRelated HoldsItem (layers_of fields) items
  pub distinct : HasDistinctNames items

-- the input, of at most so many bytes, is this tile
pub record IsTile (limit : ℕ) (input : List ℕ) (tile : Tile) : Type 0 where
  pub small : length input ≤ limit
  pub fields : List Entry
  pub whole : Whole input fields
  pub items : AreRelated HoldsItem (layers_of fields) tile.items
  pub distinct : HasDistinctNames tile.items
