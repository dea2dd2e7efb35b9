-- Which layers and items can be written. Numbers have the range of their fields.
use Rattle.std.specs.Prelude.{◌≡◌, ◌≢◌, ℕ, ◌^◌, ◌<◌, List, Some, IfSome, IsUtf8}
use Rattle.std.specs.List.{AllByRecursion}
use Rattle.mvt_attrs.specs.Tags.{HasDistinctKeys}
use Rattle.mvt_geometry.specs.Valid.{IsValidNarrow}
use Rattle.mvt_wire.specs.Field.{Entry}
use Rattle.mvt_wire.specs.Split.{Whole}
use Rattle.mvt_feature.specs.declared.feature.Feature.{Feature}
use Rattle.mvt_feature.specs.Forms.{uint32, HasForm}
use Rattle.mvt_feature.specs.Selection.{HaveForm}
use Rattle.mvt_feature.specs.Valid.{ValidAttribute, ValidFeature}
use Rattle.mvt_message.specs.declared.numbers.layer.TheConstants.{VERSION}
use Rattle.mvt_message.specs.declared.item.Item.{Item as AnItem}
use Rattle.mvt_message.specs.declared.item.Layer.{Layer as ALayer}
use Rattle.mvt_message.specs.declared.item.Item.TheVariants.{Layer, Foreign}
use Rattle.mvt_message.specs.LayerFields.{version_in}

unfoldable pub ValidLayer : ALayer → Type 0
ValidLayer layer = IsUtf8 layer.name × (layer.extent < 2 ^ 32) × AllByRecursion ValidFeature layer.features

-- the bytes of a layer of another version: they are fields, whose versions are in range
abbrev pub AreOfVersion : ℕ → List ℕ → Type 0
AreOfVersion version content =
    (fields : List Entry) × Whole content fields × HaveForm VERSION (HasForm uint32) fields
    × (version_in fields ≡ Some version) × (version ≢ 2)

unfoldable pub ValidItem : AnItem → Type 0
ValidItem (Layer layer) = ValidLayer layer
ValidItem (Foreign version content) = AreOfVersion version content

-- valid with positions in the narrow range
pub record WasValidFeature (f : Feature) : Type 0 where
  pub id : IfSome f.id (λ n. n < 2 ^ 64)
  pub attributes : AllByRecursion ValidAttribute f.attributes
  pub distinct : HasDistinctKeys f.attributes
  pub drawn : IsValidNarrow f.geometry

unfoldable pub WasValidItem : AnItem → Type 0
WasValidItem (Layer layer) =
    IsUtf8 layer.name × (layer.extent < 2 ^ 32) × AllByRecursion WasValidFeature layer.features
WasValidItem (Foreign version content) = AreOfVersion version content
