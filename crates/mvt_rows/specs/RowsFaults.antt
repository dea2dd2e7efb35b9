-- What is wrong with rows that are no valid tile: the first thing, in the order in which they are written. That is layer by
-- layer to its end: its name, its keys, its values, and then feature by feature.
use Rattle.std.specs.Prelude.{◌≡◌, ◌≢◌, ℕ, nat_lt, List, [], ◌∷◌, take, slice_get, Option, Some, None, option_map, if◌then◌else◌}
use Rattle.std.specs.Option.{option_or}
use Rattle.std.specs.List.{flat_map}
use Rattle.mvt_base.specs.Related.{AreRelated}
use Rattle.mvt_attrs.specs.Values.{Value}
use Rattle.mvt_attrs.specs.declared.resolving.TagCause.{TagCause}
use Rattle.mvt_attrs.specs.declared.resolving.TagCause.TheVariants as tags
use Rattle.mvt_attrs.specs.TagRules.{tag_fault}
use Rattle.mvt_geometry.specs.declared.shape.Geometry.{Geometry as AGeometry}
use Rattle.mvt_geometry.specs.Valid.{IsValid}
use Rattle.mvt_feature.specs.declared.feature.Feature.{Feature}
use Rattle.mvt_feature.specs.Valid.{ValidFeature}
use Rattle.mvt_message.specs.declared.item.Item.{Item}
use Rattle.mvt_message.specs.declared.item.Layer.{Layer as ALayer}
use Rattle.mvt_message.specs.Items.{names_in}
use Rattle.mvt_message.specs.ValidItems.{AreOfVersion, ValidItem, ValidLayer}
use Rattle.mvt_tile_value.specs.declared.tile.Tile.{Tile}
use Rattle.mvt_tile_value.specs.Tiles.{HasDistinctNames}
use Rattle.mvt_tile_value.specs.ValidTiles.{Valid}
use Rattle.mvt_tile.specs.TileRules.{repeats}
use Rattle.mvt_rows.specs.declared.rows.LayerRow.{LayerRow}
use Rattle.mvt_rows.specs.declared.rows.FeatureRow.{FeatureRow}
use Rattle.mvt_rows.specs.declared.rows_cause.RowsCause.{RowsCause}
use Rattle.mvt_rows.specs.declared.rows_cause.RowsCause.TheVariants.{NameSpan, NameText, KeysSpan, Key, ValuesSpan, Value as ValueCause, FeaturesSpan, BytesSpan, HasId, TagsSpan, OddTags, KeyIndex, ValueIndex, RepeatedKey, Kind, Geometry, Drawing, Bytes, RepeatedName}
use Rattle.mvt_rows.specs.declared.rows_cause.RowsFault.{RowsFault}
use Rattle.mvt_rows.specs.declared.undrawn.Undrawn.{Undrawn}
use Rattle.mvt_rows.specs.Tables.{Table}
use Rattle.mvt_rows.specs.TileRows.{each, part_of, utf8_of, text_of, value_of, id_of, geometry_of, keys_of, values_of, IsFeature, IsLayer, IsItem, IsTileOf}
use Rattle.mvt_rows.specs.Undrawn.{undrawn_by}

-- the numbers of causes in mvt.h
abbrev pub rows_cause_number : RowsCause → ℕ
rows_cause_number NameSpan = 1
rows_cause_number NameText = 2
rows_cause_number KeysSpan = 3
rows_cause_number Key = 4
rows_cause_number ValuesSpan = 5
rows_cause_number ValueCause = 6
rows_cause_number FeaturesSpan = 7
rows_cause_number BytesSpan = 8
rows_cause_number HasId = 9
rows_cause_number TagsSpan = 10
rows_cause_number OddTags = 11
rows_cause_number KeyIndex = 12
rows_cause_number ValueIndex = 13
rows_cause_number RepeatedKey = 14
rows_cause_number Kind = 15
rows_cause_number Geometry = 16
rows_cause_number (Drawing undrawn) = 17
rows_cause_number Bytes = 18
rows_cause_number RepeatedName = 19

abbrev pub of_tag_cause : TagCause → RowsCause
of_tag_cause tags.OddTags = OddTags
of_tag_cause tags.KeyIndex = KeyIndex
of_tag_cause tags.ValueIndex = ValueIndex
of_tag_cause tags.RepeatedKey = RepeatedKey

-- what is wrong where nothing is there, else what is wrong with what is there
abbrev pub or_wrong : {X Y : Type 0} → Option X → Y → (X → Option Y) → Option Y
or_wrong None wrong next = Some wrong
or_wrong (Some x) wrong next = next x

-- the first cause of a feature's row: its id, its tags, its geometry
abbrev pub geometry_cause : Table → FeatureRow → Option RowsCause
geometry_cause t row = if nat_lt 3 row.kind then Some Kind else or_wrong (geometry_of t row) Geometry (λ _. None)

abbrev pub tags_cause : List (List ℕ) → List Value → List ℕ → Option RowsCause
tags_cause keys values tags = option_map (λ (fault : ℕ × TagCause). of_tag_cause fault.1) (tag_fault keys values tags)

abbrev pub feature_cause : Table → List (List ℕ) → List Value → FeatureRow → Option RowsCause
feature_cause t keys values row =
    or_wrong (id_of row) HasId (λ _. or_wrong (part_of t.tags row.tags) TagsSpan
    (λ tags. option_or (tags_cause keys values tags) (geometry_cause t row)))

-- rows of what can be written
abbrev pub IsValidFeatureOf : Table → List (List ℕ) → List Value → FeatureRow → Feature → Type 0
IsValidFeatureOf t keys values row f = IsFeature t keys values row f × ValidFeature f

abbrev pub IsValidLayerOf : Table → LayerRow → ALayer → Type 0
IsValidLayerOf t row layer = IsLayer t row layer × ValidLayer layer

abbrev pub IsValidItemOf : Table → LayerRow → Item → Type 0
IsValidItemOf t row item = IsItem t row item × ValidItem item

-- no commands draw the geometry of a row that names one (4.3), and this is the first rule that it breaks
pub record IsUndrawnBy (geometry : AGeometry) (cause : RowsCause) : Type 0 where
  pub undrawn : Undrawn
  pub rule : undrawn_by geometry ≡ Some undrawn
  pub cause_is : cause ≡ Drawing undrawn
  pub invalid : IsValid geometry → ⊥

abbrev pub IsUndrawn : Option AGeometry → RowsCause → Type 0
IsUndrawn None cause = ⊥
IsUndrawn (Some geometry) cause = IsUndrawnBy geometry cause

-- the first that is wrong with a feature: its row, or what is drawn
abbrev pub IsWrongBy : Option RowsCause → Option AGeometry → RowsCause → Type 0
IsWrongBy (Some wrong) geometry cause = cause ≡ wrong
IsWrongBy None geometry cause = IsUndrawn geometry cause

abbrev pub IsFeatureWrong : Table → List (List ℕ) → List Value → FeatureRow → Option ℕ → RowsCause → Type 0
IsFeatureWrong t keys values row feature cause =
    (feature ≡ None) × IsWrongBy (feature_cause t keys values row) (geometry_of t row) cause

-- the first of features that is wrong: those before it can be written
pub record IsFirstWrong (t : Table) (keys : List (List ℕ)) (values : List Value) (rows : List FeatureRow) (j : ℕ)
    (cause : RowsCause) : Type 0 where
  pub row : FeatureRow
  pub there : slice_get rows j ≡ Some row
  pub before : List Feature
  pub valid : AreRelated (IsValidFeatureOf t keys values) (take j rows) before
  pub wrong : IsWrongBy (feature_cause t keys values row) (geometry_of t row) cause

abbrev pub IsFeatureWrongIn : Table → List (List ℕ) → List Value → List FeatureRow → Option ℕ → RowsCause → Type 0
IsFeatureWrongIn t keys values rows None cause = ⊥
IsFeatureWrongIn t keys values rows (Some j) cause = IsFirstWrong t keys values rows j cause

-- the first cause of a layer's row outside its features: its keys, its values, the span of its features
abbrev pub keys_cause : Table → LayerRow → Option RowsCause → Option RowsCause
keys_cause t row next = or_wrong (part_of t.keys row.keys) KeysSpan (λ spans. or_wrong (each (text_of t.texts) spans) Key (λ _. next))

abbrev pub values_cause : Table → LayerRow → Option RowsCause → Option RowsCause
values_cause t row next =
    or_wrong (part_of t.values row.values) ValuesSpan (λ rows. or_wrong (each (value_of t.texts) rows) ValueCause (λ _. next))

abbrev pub parts_cause : Table → LayerRow → Option RowsCause
parts_cause t row = keys_cause t row (values_cause t row (or_wrong (part_of t.features row.features) FeaturesSpan (λ _. None)))

-- before these, its name: a text that is none of those before it
abbrev pub name_cause : Table → List (List ℕ) → LayerRow → Option RowsCause
name_cause t names row = or_wrong (part_of t.texts row.name) NameSpan (λ bytes. or_wrong (utf8_of bytes) NameText
    (λ name. if repeats names (name ∷ []) then Some RepeatedName else None))

-- a layer's row names these keys, values and rows, of which the first that is wrong is this one
pub record HasWrong (t : Table) (row : LayerRow) (j : ℕ) (cause : RowsCause) : Type 0 where
  pub none : parts_cause t row ≡ None
  pub keys : List (List ℕ)
  pub has_keys : keys_of t row.keys ≡ Some keys
  pub values : List Value
  pub has_values : values_of t row.values ≡ Some values
  pub rows : List FeatureRow
  pub has_rows : part_of t.features row.features ≡ Some rows
  pub first : IsFirstWrong t keys values rows j cause

-- what is wrong behind the name of a layer of version 2: at a feature, or at none
abbrev pub IsInsideWrong : Table → LayerRow → Option ℕ → RowsCause → Type 0
IsInsideWrong t row None cause = parts_cause t row ≡ Some cause
IsInsideWrong t row (Some j) cause = HasWrong t row j cause

abbrev pub IsLayerWrongBy : Table → LayerRow → Option RowsCause → Option ℕ → RowsCause → Type 0
IsLayerWrongBy t row (Some wrong) feature cause = (feature ≡ None) × (cause ≡ wrong)
IsLayerWrongBy t row None feature cause = IsInsideWrong t row feature cause

-- what is wrong with the bytes of a layer of another version
abbrev pub IsForeignWrong : ℕ → Option (List ℕ) → RowsCause → Type 0
IsForeignWrong version None cause = cause ≡ BytesSpan
IsForeignWrong version (Some content) cause = (cause ≡ Bytes) × (AreOfVersion version content → ⊥)

-- what is wrong with a layer's row after layers with these names
pub record IsRowWrong (t : Table) (names : List (List ℕ)) (row : LayerRow) (feature : Option ℕ) (cause : RowsCause) : Type 0 where
  pub layer : row.version ≡ 2 → IsLayerWrongBy t row (name_cause t names row) feature cause
  pub foreign : row.version ≢ 2 → (feature ≡ None) × IsForeignWrong row.version (part_of t.texts row.bytes) cause

-- what is wrong with rows that are no valid tile: the first layer's row that is wrong, after rows that can be written
pub record IsFaultOf (t : Table) (fault : RowsFault) : Type 0 where
  pub row : LayerRow
  pub there : slice_get t.layers fault.layer ≡ Some row
  pub before : List Item
  pub valid : AreRelated (IsValidItemOf t) (take fault.layer t.layers) before
  pub distinct : HasDistinctNames before
  pub wrong : IsRowWrong t (flat_map names_in before) row fault.feature fault.cause

-- the rows are a valid tile
abbrev pub AreValid : Table → Type 0
AreValid t = (tile : Tile) × IsTileOf t tile × Valid tile
