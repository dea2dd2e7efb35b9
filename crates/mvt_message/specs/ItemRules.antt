-- The rules that bind a layer's payload (Mapbox Vector Tile Specification 2.1, 4.1, message Layer), as a
-- table.
use Rattle.std.specs.Prelude.{ℕ, ◌+◌, List, [], ◌∷◌, length, Option, is_none, if◌then◌else◌}
use Rattle.std.specs.Option.{option_to_list}
use Rattle.mvt_base.specs.Rules.{Rules, when, map_faults, rows, each, first}
use Rattle.mvt_attrs.specs.Values.{Value}
use Rattle.mvt_wire.specs.Field.{Entry}
use Rattle.mvt_wire.specs.Split.{split}
use Rattle.mvt_feature.specs.declared.cause.Cause.TheVariants.{NoVersion, NoName}
use Rattle.mvt_feature.specs.Faults.{MessageFault, fault_at, in_feature, rest_rules}
use Rattle.mvt_feature.specs.FeatureRules.{feature_rules}
use Rattle.mvt_feature.specs.Forms.{forms_rules}
use Rattle.mvt_feature.specs.Selection.{only, last_only}
use Rattle.mvt_feature.specs.ValueRules.{value_rules}
use Rattle.mvt_message.specs.declared.numbers.layer.TheConstants.{NAME, FEATURES, VALUES, VERSION}
use Rattle.mvt_message.specs.LayerFields.{version_forms, layer_forms, bytes_of, version_in, is_two, name_in, keys_in, values_in}

-- the form of a version
unfoldable pub version_rules : ℕ → Entry → Rules MessageFault
version_rules payload_at x = forms_rules version_forms payload_at x

-- the forms of the other fields, in a layer of version 2
unfoldable pub layer_field_rules : ℕ → Entry → Rules MessageFault
layer_field_rules payload_at x = forms_rules layer_forms payload_at x

-- the value of a field
abbrev pub value_rules_of : ℕ → Entry → Rules MessageFault
value_rules_of payload_at x = value_rules (bytes_of x.content) (payload_at + x.body) (payload_at + x.at)

-- the feature of a field after the fields of earlier ones
abbrev pub feature_rules_of : ℕ → List (List ℕ) → List Value → List Entry → Entry → Rules MessageFault
feature_rules_of payload_at keys values earlier x =
    map_faults (in_feature (length earlier)) (feature_rules (bytes_of x.content) (payload_at + x.body) keys values)

-- the rules of a layer of version 2
abbrev pub layer_table : ℕ → ℕ → List Entry → List (ℕ × Rules MessageFault)
layer_table payload_at tag_at fields =
    (6, each (λ _. layer_field_rules payload_at) [] fields)
    ∷ ((7, when (is_none (last_only NAME fields)) (fault_at tag_at NoName))
    ∷ ((8, each (λ _. value_rules_of payload_at) [] (only VALUES fields))
    ∷ ((9, each (feature_rules_of payload_at (keys_in fields) (values_in fields)) [] (only FEATURES fields)) ∷ [])))

-- the rules of a payload whose first byte stands at `payload_at`, and its field's tag at `tag_at`: where its version
-- isn't 2, they end with it
abbrev pub item_table : List ℕ → ℕ → ℕ → List (ℕ × Rules MessageFault)
item_table payload payload_at tag_at =
    (2, rest_rules payload_at (split payload))
    ∷ ((3, each (λ _. version_rules payload_at) [] (split payload).fields)
    ∷ ((4, when (is_none (last_only VERSION (split payload).fields)) (fault_at tag_at NoVersion))
    ∷ (if is_two (version_in (split payload).fields) then layer_table payload_at tag_at (split payload).fields else [])))

unfoldable pub item_rules : List ℕ → ℕ → ℕ → Rules MessageFault
item_rules payload payload_at tag_at = rows (item_table payload payload_at tag_at)

-- the broken rule of least rank
unfoldable pub item_fault : List ℕ → ℕ → ℕ → Option MessageFault
item_fault payload payload_at tag_at = first (item_rules payload payload_at tag_at)

-- the name of a layer of version 2, as a list of one; also where the layer is broken; no name for others
unfoldable pub payload_names : List ℕ → List (List ℕ)
payload_names payload =
    if is_two (version_in (split payload).fields) then option_to_list (name_in (split payload).fields) else []
