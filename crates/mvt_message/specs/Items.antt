-- Items (Mapbox Vector Tile Specification 2.1, 4.1, message Layer): layers of version 2, and others as
-- their bytes.
use Rattle.std.specs.Prelude.{◌≡◌, ◌≢◌, ℕ, List, [], ◌∷◌, Some}
use Rattle.mvt_base.specs.Related.{AreRelated}
use Rattle.mvt_attrs.specs.Values.{Value}
use Rattle.mvt_wire.specs.Field.{Entry}
use Rattle.mvt_wire.specs.Split.{Whole}
use Rattle.mvt_feature.specs.declared.feature.Feature.{Feature}
use Rattle.mvt_feature.specs.Features.{IsFeatureOf}
use Rattle.mvt_feature.specs.Forms.{uint32, HasForm, HaveForms}
use Rattle.mvt_feature.specs.Selection.{only, HaveForm}
use Rattle.mvt_feature.specs.Values.{IsValueOf}
use Rattle.mvt_message.specs.declared.numbers.layer.TheConstants.{FEATURES, VALUES, VERSION}
use Rattle.mvt_message.specs.declared.item.Item.{Item as AnItem}
use Rattle.mvt_message.specs.declared.item.Layer.{Layer as ALayer}
use Rattle.mvt_message.specs.declared.item.Item.TheVariants.{Layer, Foreign}
use Rattle.mvt_message.specs.LayerFields.{layer_forms, bytes_of, version_in, name_in, extent_in, keys_in}

-- a field that holds this value, or this feature of a layer with these keys and values
abbrev pub HoldsValue : Entry → Value → Type 0
HoldsValue x value = IsValueOf (bytes_of x.content) value

-- a field whose payload is this feature
abbrev pub HoldsFeature : List (List ℕ) → List Value → Entry → Feature → Type 0
HoldsFeature keys values x feature = IsFeatureOf (bytes_of x.content) keys values feature

-- fields that are this layer of version 2
pub record IsLayer (fields : List Entry) (layer : ALayer) : Type 0 where
  pub forms : HaveForms layer_forms fields
  pub name : name_in fields ≡ Some layer.name
  pub extent : layer.extent ≡ extent_in fields
  pub values : List Value
  pub values_are : AreRelated HoldsValue (only VALUES fields) values
  pub features : AreRelated (HoldsFeature (keys_in fields) values) (only FEATURES fields) layer.features

-- fields that are this item, of this payload
abbrev pub AreItem : List Entry → List ℕ → AnItem → Type 0
AreItem fields payload (Layer layer) = (version_in fields ≡ Some 2) × IsLayer fields layer
AreItem fields payload (Foreign version content) = (version_in fields ≡ Some version) × (version ≢ 2) × (content ≡ payload)

-- the payload is this item
unfoldable pub IsItem : List ℕ → AnItem → Type 0
IsItem payload item =
    (fields : List Entry) × Whole payload fields × HaveForm VERSION (HasForm uint32) fields × AreItem fields payload item

-- the name of a layer of version 2, as a list of one
abbrev pub names_in : AnItem → List (List ℕ)
names_in (Layer layer) = layer.name ∷ []
names_in (Foreign version content) = []
