-- What is written of rows so far. No public contract cites this.
use Rattle.std.specs.Prelude.{◌≡◌, ℕ, ◌+◌, ◌^◌, ◌<◌, true, List, [], ◌∷◌, ◌++◌, length, bytes_eq, IsUtf8, IfSome, Some, None}
use Rattle.std.specs.List.{AllByRecursion, list_any, flat_map}
use Rattle.mvt_attrs.specs.FirstUses.{lent}
use Rattle.mvt_base.specs.declared.TheConstants.{LIMIT}
use Rattle.mvt_base.specs.Related.{AreRelated}
use Rattle.mvt_attrs.specs.Values.{Value}
use Rattle.mvt_attrs.specs.TagRules.{tag_fault}
use Rattle.mvt_feature.specs.Valid.{ValidValue}
use Rattle.mvt_message.specs.declared.item.Item.{Item}
use Rattle.mvt_message.specs.Items.{names_in}
use Rattle.mvt_tile_value.specs.Encoding.{AreEncoded}
use Rattle.mvt_tile_value.specs.Tiles.{HasDistinctNames}
use Rattle.mvt_tile.specs.TileRules.{repeats}
use Rattle.mvt_rows.specs.declared.rows.FeatureRow.{FeatureRow}
use Rattle.mvt_rows.specs.declared.rows.LayerRow.{LayerRow}
use Rattle.mvt_rows.specs.declared.writing.features.FeatureParts.{FeatureParts}
use Rattle.mvt_rows.specs.declared.writing.layers.LayerParts.{LayerParts}
use Rattle.mvt_rows.specs.declared.writing.RowsWriter.{RowsWriter}
use Rattle.mvt_rows.specs.Drawing.{AreDrawnIf}
use Rattle.mvt_rows.specs.RowsFaults.{IsValidItemOf}
use Rattle.mvt_rows.specs.Tables.{Table}
use Rattle.mvt_rows.specs.TileRows.{part_of, id_of, geometry_of, keys_of, values_of}

-- how many entries the lists have
abbrev pub entry_count : Table → ℕ
entry_count t =
    length t.layers + (length t.features + (length t.keys + (length t.values + (length t.tags
    + (length t.parts + (length t.points + (length t.integers + length t.texts)))))))

-- what a feature's row says, where its tags have no fault, and the integers that draw its geometry, where there are any
pub record AreFeatureParts (t : Table) (keys : List (List ℕ)) (values : List Value) (row : FeatureRow) (integers : List ℕ)
    (parts : FeatureParts) : Type 0 where
  pub id : id_of row ≡ Some parts.id
  pub id_fits : IfSome parts.id (λ n. n < 2 ^ 64)
  pub tagged : part_of t.tags row.tags ≡ Some parts.tags.now
  pub tags : tag_fault keys values parts.tags.now ≡ None
  pub geometry : AreDrawnIf (geometry_of t row) parts.kind integers

-- the keys and the values of a layer are in the range of their types
pub record AreInRange (keys : List (List ℕ)) (values : List Value) : Type 0 where
  pub keys_are : AllByRecursion IsUtf8 keys
  pub values_are : AllByRecursion ValidValue values

-- what a layer's row names
pub record AreLayerParts (t : Table) (row : LayerRow) (parts : LayerParts) : Type 0 where
  pub keys : keys_of t row.keys ≡ Some (lent parts.keys.items)
  pub values : values_of t row.values ≡ Some parts.values.items
  pub in_range : AreInRange (lent parts.keys.items) parts.values.items
  pub rows : part_of t.features row.features ≡ Some parts.rows.now

-- what a row is that can be written has the name of an item before it
abbrev pub IsRefused : Table → LayerRow → List Item → Type 0
IsRefused t row items = (item : Item) → IsValidItemOf t row item → repeats (flat_map names_in items) (names_in item) ≡ true

-- a set of names has those of these items
abbrev pub AreNames : List (List ℕ) → List Item → Type 0
AreNames names items = (n : List ℕ) → list_any (bytes_eq n) names ≡ list_any (bytes_eq n) (flat_map names_in items)

-- the names of items, which are distinct, and their canonical bytes
pub record HasAdded (w : RowsWriter) (items : List Item) : Type 0 where
  pub named : AreNames w.names items
  pub distinct : HasDistinctNames items
  pub encoded : AreEncoded LIMIT items w.out

-- one item more, which the row is
abbrev pub HasAddedRow : Table → LayerRow → RowsWriter → List Item → Type 0
HasAddedRow t row w items = (item : Item) × IsValidItemOf t row item × HasAdded w (items ++ item ∷ [])

-- these rows are the items
abbrev pub AreWritten : Table → List LayerRow → RowsWriter → List Item → Type 0
AreWritten t rows w items = AreRelated (IsValidItemOf t) rows items × HasAdded w items
