-- The rows that bytes are read as. Each list has the parts of its kind in the order of the tile: of a layer of version 2 its
-- values, its keys and its features as they stand, also those that nothing names, and then its name; of another layer its bytes
-- alone.
use Rattle.std.specs.Prelude.{ℕ, List, [], ◌∷◌, length}
use Rattle.std.specs.List.{fold}
use Rattle.mvt_wire.specs.Field.{Entry}
use Rattle.mvt_wire.specs.Split.{split}
use Rattle.mvt_geometry.specs.Shape.{kind_of}
use Rattle.mvt_feature.specs.declared.feature.Feature.{Feature}
use Rattle.mvt_feature.specs.declared.numbers.feature.TheConstants.{TAGS}
use Rattle.mvt_feature.specs.FeatureRules.{joined}
use Rattle.mvt_message.specs.declared.item.Item.{Item}
use Rattle.mvt_message.specs.declared.item.Item.TheVariants.{Layer, Foreign}
use Rattle.mvt_message.specs.declared.item.Layer.{Layer as ALayer}
use Rattle.mvt_message.specs.LayerFields.{keys_in, payloads_in as features_in, values_in}
use Rattle.mvt_tile_value.specs.declared.tile.Tile.{Tile}
use Rattle.mvt_tile.specs.Visiting.{payloads_in}
use Rattle.mvt_rows.specs.declared.places.Places.{Places}
use Rattle.mvt_rows.specs.Tables.{Table, no_rows, with_value, with_key, with_geometry, with_feature_row, with_layer_row, with_foreign}

-- where the lists of a table end
abbrev pub places_of : Table → Places
places_of t = record {
  features = length t.features;
  keys = length t.keys;
  values = length t.values;
  parts = length t.parts;
  integers = length t.integers;
  texts = length t.texts;
}

-- a table and the feature of a payload more: its geometry, and its row with the tags as they stand
abbrev pub with_feature : Table → List ℕ → Feature → Table
with_feature t payload f =
    with_feature_row (joined TAGS (split payload).fields) (with_geometry t f.geometry) (record { id = f.id; kind = kind_of f.geometry })
    (places_of t)

-- and the features of these payloads, one by one
abbrev pub with_features : Table → List (List ℕ) → List Feature → Table
with_features t [] features = t
with_features t (payload ∷ payloads) [] = t
with_features t (payload ∷ payloads) (f ∷ features) = with_features (with_feature t payload f) payloads features

-- and the layer of version 2 that fields are
abbrev pub with_layer : Table → List Entry → ALayer → Table
with_layer t fields layer =
    with_layer_row (with_features (fold with_key (fold with_value t (values_in fields)) (keys_in fields)) (features_in fields)
    layer.features)
    layer.name layer.extent (places_of t)

-- and the item of a payload
abbrev pub with_item : Table → List ℕ → Item → Table
with_item t payload (Layer layer) = with_layer t (split payload).fields layer
with_item t payload (Foreign version content) = with_foreign t version content

-- and the items of these payloads, one by one
abbrev pub with_items : Table → List (List ℕ) → List Item → Table
with_items t [] items = t
with_items t (payload ∷ payloads) [] = t
with_items t (payload ∷ payloads) (item ∷ items) = with_items (with_item t payload item) payloads items

-- the rows of bytes that are this tile
abbrev pub read_table : List ℕ → Tile → Table
read_table input tile = with_items no_rows (payloads_in input) tile.items
