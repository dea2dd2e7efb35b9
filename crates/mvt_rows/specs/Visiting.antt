-- The rows of a tile as they are made, item by item.
use Rattle.std.specs.Prelude.{◌≡◌, ℕ, ◌≤◌, List, ◌++◌, length, Some}
use Rattle.std.specs.List.{fold}
use Rattle.mvt_base.specs.Related.{AreRelated}
use Rattle.mvt_attrs.specs.Values.{Value}
use Rattle.mvt_feature.specs.declared.feature.Feature.{Feature}
use Rattle.mvt_message.specs.declared.item.Item.{Item}
use Rattle.mvt_rows.specs.declared.rows.Span.{Span}
use Rattle.mvt_rows.specs.declared.rows.ValueRow.{ValueRow}
use Rattle.mvt_rows.specs.declared.places.Places.{Places}
use Rattle.mvt_rows.specs.ReadTables.{places_of, with_features, with_items}
use Rattle.mvt_rows.specs.declared.table.visiting.RowsVisitor.{RowsVisitor}
use Rattle.mvt_rows.specs.Tables.{Table, no_rows, table_size, with_key, with_value}
use Rattle.mvt_rows.specs.TileRows.{text_of, value_of, IsFeature, IsItem}

-- the rows of layers are these items
abbrev pub AreItemRows : Table → List Item → Type 0
AreItemRows t items = AreRelated (IsItem t) t.layers items

-- the rows of a list from a place on are these things, one by one
pub record AreRows {R X : Type 0} (Is : R → X → Type 0) (held : List R) (start : ℕ) (things : List X) : Type 0 where
  pub before : List R
  pub rows : List R
  pub held_are : held ≡ before ++ rows
  pub start_is : start ≡ length before
  pub things_are : AreRelated Is rows things

abbrev pub IsKey : Table → Span → List ℕ → Type 0
IsKey t span key = text_of t.texts span ≡ Some key

abbrev pub IsValue : Table → ValueRow → Value → Type 0
IsValue t row value = value_of t.texts row ≡ Some value

-- the items, and after these places a layer's keys, values and features
pub record AreLayerRows (t : Table) (open_at : Places) (items : List Item) (keys : List (List ℕ)) (values : List Value)
    (features : List Feature) : Type 0 where
  pub items_are : AreItemRows t items
  pub keys_are : AreRows (IsKey t) t.keys open_at.keys keys
  pub values_are : AreRows (IsValue t) t.values open_at.values values
  pub features_are : AreRows (IsFeature t keys values) t.features open_at.features features

-- the rows are those that are read of these payloads, which are these items
pub record HasRead (t : Table) (payloads : List (List ℕ)) (items : List Item) : Type 0 where
  pub even : length payloads ≡ length items
  pub rows : t ≡ with_items no_rows payloads items

-- the lists have no more bytes than they shall
pub record IsWithin (most : ℕ) (rows : RowsVisitor) : Type 0 where
  pub most_is : rows.most ≡ most
  pub within : table_size rows.table ≤ most

-- what there was before a layer: the table, the items that it is, and how many bytes its lists shall have at most
pub record Before : Type 0 where
  pub table : Table
  pub items : List Item
  pub most : ℕ

-- and since the table was the first one, those of a layer's values, and of its keys and its features too
abbrev pub HasReadValues : Table → Table → Places → List Value → Type 0
HasReadValues before t open_at values = (open_at ≡ places_of before) × (t ≡ fold with_value before values)

pub record HasReadFeatures (before t : Table) (open_at : Places) (keys : List (List ℕ)) (values : List Value)
    (payloads : List (List ℕ)) (features : List Feature) : Type 0 where
  pub opened : open_at ≡ places_of before
  pub even : length payloads ≡ length features
  pub rows : t ≡ with_features (fold with_key (fold with_value before values) keys) payloads features
