-- Definitions between private functions, which no public contract cites.
use Rattle.std.specs.Prelude.{◌≡◌, ℕ, ◌+◌, ◌==◌, List, [], ◌∷◌, length, Option, Some, None, Result, Ok, is_none, unwrap_or, ⊤, if◌then◌else◌}
use Rattle.std.specs.Option.{option_or, option_copied}
use Rattle.mvt_base.specs.Reports.{Reports}
use Rattle.mvt_base.specs.Related.{AreRelated}
use Rattle.mvt_base.specs.Rules.{when, rows, each, first}
use Rattle.mvt_attrs.specs.Values.{Value}
use Rattle.mvt_attrs.specs.FirstUses.{lent}
use Rattle.mvt_wire.specs.Field.{Content, Entry}
use Rattle.mvt_wire.specs.Split.{split}
use Rattle.mvt_feature.specs.declared.cause.Cause.TheVariants.{NoVersion, NoName}
use Rattle.mvt_feature.specs.declared.feature.Feature.{Feature}
use Rattle.mvt_feature.specs.declared.message_error.MessageError.{MessageError}
use Rattle.mvt_feature.specs.declared.message_error.MessageError.TheVariants.{Memory, Fault}
use Rattle.mvt_feature.specs.Faults.{MessageFault, fault_of, fault_at, rest_rules}
use Rattle.mvt_feature.specs.Features.{number_of}
use Rattle.mvt_feature.specs.Forms.{Form, uint32}
use Rattle.mvt_feature.specs.Walks.{IsSoFar}
use Rattle.mvt_feature.specs.Selection.{only, last_only}
use Rattle.mvt_message.specs.declared.numbers.layer.TheConstants.{NAME, FEATURES, KEYS, VALUES, EXTENT, VERSION}
use Rattle.mvt_message.specs.declared.layer_fields.LayerFault.{LayerFault}
use Rattle.mvt_message.specs.declared.layer_fields.LayerFault.TheVariants.{Field, Value as AValue}
use Rattle.mvt_message.specs.declared.layer_fields.LayerFields.{LayerFields}
use Rattle.mvt_message.specs.declared.layer_header.LayerHeader.{LayerHeader}
use Rattle.mvt_message.specs.ItemRules.{version_rules, layer_field_rules, value_rules_of, feature_rules_of, layer_table}
use Rattle.mvt_message.specs.Items.{HoldsValue, HoldsFeature}
use Rattle.mvt_message.specs.LayerFields.{layer_forms, bytes_of, version_in, name_in, extent_in, keys_in, payloads_in}

-- the parts of an item's fault, row by row
abbrev pub rest_fault : List ℕ → ℕ → Option MessageFault
rest_fault payload payload_at = first (rest_rules payload_at (split payload))

abbrev pub versions_fault : ℕ → List Entry → Option MessageFault
versions_fault payload_at fields = first (each (λ _. version_rules payload_at) [] fields)

abbrev pub no_version_fault : ℕ → List Entry → Option MessageFault
no_version_fault tag_at fields = first (when (is_none (last_only VERSION fields)) (fault_at tag_at NoVersion))

abbrev pub forms_fault : ℕ → List Entry → Option MessageFault
forms_fault payload_at fields = first (each (λ _. layer_field_rules payload_at) [] fields)

abbrev pub no_name_fault : ℕ → List Entry → Option MessageFault
no_name_fault tag_at fields = first (when (is_none (last_only NAME fields)) (fault_at tag_at NoName))

abbrev pub values_fault : ℕ → List Entry → Option MessageFault
values_fault payload_at fields = first (each (λ _. value_rules_of payload_at) [] (only VALUES fields))

abbrev pub features_fault : ℕ → List (List ℕ) → List Value → List Entry → Option MessageFault
features_fault payload_at keys values fields = first (each (feature_rules_of payload_at keys values) [] (only FEATURES fields))

-- the fault up to the version, and that of a layer of version 2 after it
abbrev pub header_fault : List ℕ → ℕ → ℕ → Option MessageFault
header_fault payload payload_at tag_at =
    option_or (rest_fault payload payload_at)
    (option_or (versions_fault payload_at (split payload).fields) (no_version_fault tag_at (split payload).fields))

unfoldable pub layer_fault : ℕ → ℕ → List Entry → Option MessageFault
layer_fault payload_at tag_at fields = first (rows (layer_table payload_at tag_at fields))

-- the version by the fields so far
abbrev pub IsVersionSoFar : ℕ → List Entry → Result (Option ℕ) MessageError → Type 0
IsVersionSoFar payload_at done version = IsSoFar (version_rules payload_at) (λ fields v. v ≡ version_in fields) done version

-- the fields of a layer and their forms, with the version's
abbrev pub header_forms : List (ℕ × Form)
header_forms = (VERSION, uint32) ∷ layer_forms

-- what one more field changes
abbrev pub version_after : Option ℕ → ℕ → Content → Option ℕ
version_after old number content = if number == VERSION then number_of content else old

abbrev pub name_after : Option (List ℕ) → ℕ → Content → Option (List ℕ)
name_after old number content = if number == NAME then Some (bytes_of content) else old

-- the last extent counts; 4096 where none is written (4.1)
abbrev pub extent_after : ℕ → ℕ → Content → ℕ
extent_after old number content = if number == EXTENT then unwrap_or (number_of content) 4096 else old

-- the key of a field, if it is one
abbrev pub keys_at : ℕ → Content → List (List ℕ)
keys_at number content = if number == KEYS then bytes_of content ∷ [] else []

abbrev pub features_after : ℕ → ℕ → ℕ
features_after old number = if number == FEATURES then old + 1 else old

-- what is said by fields that break no rule
pub record IsLayerHeader (payload_at : ℕ) (fields : List Entry) (header : LayerHeader) : Type 0 where
  pub version : IsVersionSoFar payload_at fields (Ok header.version)
  pub clean : forms_fault payload_at fields ≡ None
  pub name_is : option_copied header.name ≡ name_in fields
  pub extent_is : header.extent ≡ extent_in fields
  pub keys_are : lent header.keys.items ≡ keys_in fields
  pub features_are : header.features ≡ length (only FEATURES fields)

-- the values, and the features, by the fields so far
abbrev pub AreValuesSoFar : ℕ → List Entry → List Value → Type 0
AreValuesSoFar payload_at done values = (values_fault payload_at done ≡ None) × AreRelated HoldsValue (only VALUES done) values

-- the features of the fields so far, which have no fault
abbrev pub AreFeaturesSoFar : ℕ → List (List ℕ) → List Value → List Entry → List Feature → Type 0
AreFeaturesSoFar payload_at keys values done features =
    (features_fault payload_at keys values done ≡ None) × AreRelated (HoldsFeature keys values) (only FEATURES done) features

-- values that are counted, and that a visitor has
pub record AreValuesHeld (Has : List Value → Type 0) (payload_at : ℕ) (done : List Entry) (count : ℕ) : Type 0 where
  pub values : List Value
  pub so_far : AreValuesSoFar payload_at done values
  pub counted : count ≡ length values
  pub has : Has values

-- the head and the values of a layer with these fields, which break no rule
abbrev pub IsLayerFields : (List Value → Type 0) → ℕ → List Entry → LayerFields → Type 0
IsLayerFields Has payload_at fields front = IsLayerHeader payload_at fields front.header × AreValuesHeld Has payload_at fields front.values

-- the first fault of the forms, or of the values, of fields whose versions have none
abbrev pub IsBroken : ℕ → List Entry → LayerFault → Type 0
IsBroken payload_at fields (Field error) = versions_fault payload_at fields ≡ None
    → Reports (fault_of error) (forms_fault payload_at fields)
IsBroken payload_at fields (AValue error) = Reports (fault_of error) (values_fault payload_at fields)

-- features that are counted, and that a visitor has, with their payloads
pub record AreFeaturesHeld (Has : List (List ℕ) → List Feature → Type 0) (payload_at : ℕ) (keys : List (List ℕ)) (values : List Value)
    (done : List Entry) (count : ℕ) : Type 0 where
  pub features : List Feature
  pub so_far : AreFeaturesSoFar payload_at keys values done features
  pub counted : count ≡ length features
  pub has : Has (payloads_in done) features

-- an error that isn't want of memory
abbrev pub IsFault : MessageError → Type 0
IsFault Memory = ⊥
IsFault (Fault feature at cause) = ⊤
