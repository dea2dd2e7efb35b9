-- What is written for an item (Mapbox Vector Tile Specification 2.1, 4.1, message Layer): the fields of a
-- layer in their order, spelled in the shortest way; a foreign item's own bytes.
use Rattle.std.specs.Prelude.{ℕ, List, [], ◌∷◌, ◌++◌, map}
use Rattle.std.specs.List.{flat_map}
use Rattle.mvt_attrs.specs.declared.value.Attribute.{Attribute}
use Rattle.mvt_attrs.specs.Values.{Value}
use Rattle.mvt_attrs.specs.Pools.{key_pool, value_pool}
use Rattle.mvt_attrs.specs.TagPlaces.{tags_in}
use Rattle.mvt_wire.specs.Field.{varint, bytes}
use Rattle.mvt_wire.specs.Spelling.{Plain, spelled}
use Rattle.mvt_feature.specs.declared.feature.Feature.{Feature}
use Rattle.mvt_feature.specs.Canonical.{plain, value_fields, feature_fields}
use Rattle.mvt_message.specs.declared.numbers.layer.TheConstants.{NAME, FEATURES, KEYS, VALUES, EXTENT, VERSION}
use Rattle.mvt_message.specs.declared.item.Item.{Item as AnItem}
use Rattle.mvt_message.specs.declared.item.Layer.{Layer as ALayer}
use Rattle.mvt_message.specs.declared.item.Item.TheVariants.{Layer, Foreign}

-- the attributes of all features in one list
abbrev pub attributes_of : List Feature → List Attribute
attributes_of features = flat_map (λ (f : Feature). f.attributes) features

-- the keys and the values that they use, each once, in order of first use (4.4)
unfoldable pub keys_of : List Feature → List (List ℕ)
keys_of features = key_pool [] (attributes_of features)

unfoldable pub values_of : List Feature → List Value
values_of features = value_pool [] (attributes_of features)

-- the version and the name
abbrev pub head_fields : List ℕ → List Plain
head_fields name = plain VERSION (varint 2) ∷ (plain NAME (bytes name) ∷ [])

-- a feature of a layer with these keys and values
abbrev pub feature_field : List (List ℕ) → List Value → Feature → Plain
feature_field keys values f = plain FEATURES (bytes (spelled (feature_fields (tags_in keys values f.attributes) f)))

abbrev pub key_field : List ℕ → Plain
key_field key = plain KEYS (bytes key)

abbrev pub value_field : Value → Plain
value_field value = plain VALUES (bytes (spelled (value_fields value)))

abbrev pub extent_fields : ℕ → List Plain
extent_fields extent = plain EXTENT (varint extent) ∷ []

-- the fields of a layer with these keys and values
abbrev pub fields_with : List (List ℕ) → List Value → ALayer → List Plain
fields_with keys values layer =
    head_fields layer.name
    ++ (map (feature_field keys values) layer.features ++ (map key_field keys ++ (map value_field values ++ extent_fields layer.extent)))

abbrev pub layer_fields : ALayer → List Plain
layer_fields layer = fields_with (keys_of layer.features) (values_of layer.features) layer

-- the canonical payload of an item
unfoldable pub canonical_item : AnItem → List ℕ
canonical_item (Layer layer) = spelled (layer_fields layer)
canonical_item (Foreign version content) = content
