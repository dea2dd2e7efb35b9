-- A layer that is canonical but for where its version, its name and its extent stand, and for last keys and values that no feature
-- uses. Its body is its payload.
use Rattle.std.specs.Prelude.{◌≡◌, ℕ, ◌≤◌, List, ◌++◌, length, map, drop, take, IsTrue, IsUtf8}
use Rattle.std.specs.Borrow.{Bor}
use Rattle.std.specs.List.{AllByRecursion}
use Rattle.mvt_attrs.specs.Values.{Value}
use Rattle.mvt_attrs.specs.FirstUse.{AreDistinct}
use Rattle.mvt_attrs.specs.FirstUses.{lent}
use Rattle.mvt_wire.specs.Field.{bytes}
use Rattle.mvt_wire.specs.Spelling.{Plain, spelled}
use Rattle.mvt_feature.specs.declared.feature.Feature.{Feature}
use Rattle.mvt_feature.specs.Canonical.{plain, value_fields}
use Rattle.mvt_feature.specs.Copying.{AreReady}
use Rattle.mvt_feature.specs.Valid.{ValidFeature, ValidValue}
use Rattle.mvt_message.specs.declared.layer_copying.CopiedLayer.{CopiedLayer}
use Rattle.mvt_message.specs.declared.layer_frame.Frame.{Frame}
use Rattle.mvt_message.specs.declared.layer_frame.Front.{Front}
use Rattle.mvt_message.specs.declared.item.Layer.{Layer as ALayer}
use Rattle.mvt_message.specs.declared.item.Item.TheVariants as items
use Rattle.mvt_message.specs.declared.numbers.layer.TheConstants.{KEYS}
use Rattle.mvt_message.specs.Around.{IsAround}
use Rattle.mvt_message.specs.CanonicalItems.{canonical_item, keys_of, values_of, head_fields, feature_field, key_field, value_field, extent_fields}
use Rattle.mvt_message.specs.Items.{IsItem}
use Rattle.mvt_message.specs.ValidItems.{ValidItem}

-- features, and the keys and the values that they have
abbrev pub core_with : List (List ℕ) → List Value → List Feature → List Plain
core_with keys values features = map (feature_field keys values) features ++ (map key_field keys ++ map value_field values)

-- features, keys and values that stand from one place to another, canonical but for keys and values at the end of theirs that no
-- feature uses; the canonical ones; the features were told
pub record IsCoreOf (WereTold : List Feature → Type 0) (body : List ℕ) (start end : ℕ) (canonical : List ℕ) : Type 0 where
  pub features : List Feature
  pub more_keys : List (List ℕ)
  pub more_values : List Value
  pub valid : AllByRecursion ValidFeature features
  pub texts : AllByRecursion IsUtf8 more_keys
  pub valid_values : AllByRecursion ValidValue more_values
  pub stand : drop start body
      ≡ spelled (core_with (keys_of features ++ more_keys) (values_of features ++ more_values) features) ++ drop end body
  pub canonical_is : canonical ≡ spelled (core_with (keys_of features) (values_of features) features)
  pub told : WereTold features

-- the canonical payload of a layer of this name, whose features were told
abbrev pub IsCanonicalLayer : (List Feature → Type 0) → List ℕ → List ℕ → Type 0
IsCanonicalLayer WereTold payload name =
    (layer : ALayer) × IsItem payload (items.Layer layer) × ValidItem (items.Layer layer) × (name ≡ layer.name)
    × (canonical_item (items.Layer layer) ≡ payload) × WereTold layer.features

-- the payload of a layer of this name, whose canonical payload this is
abbrev pub IsCopied : List ℕ → List ℕ → List ℕ → Type 0
IsCopied payload name canonical =
    (layer : ALayer) × IsItem payload (items.Layer layer) × ValidItem (items.Layer layer) × (name ≡ layer.name)
    × (canonical_item (items.Layer layer) ≡ canonical)

-- the fields that are copied
abbrev pub copied_core : CopiedLayer → List ℕ
copied_core layer = layer.front.now ++ layer.values.now

-- the layer of this frame, whose features were told
abbrev pub IsLayerIn : (List Feature → Type 0) → List ℕ → Frame → CopiedLayer → Type 0
IsLayerIn WereTold body frame layer =
    IsCoreOf WereTold body frame.features_at frame.front.end_at (copied_core layer)
    × (layer.name.now ≡ frame.name.now) × (layer.extent ≡ frame.extent)

-- the payload that is made
abbrev pub copied_payload : CopiedLayer → List ℕ
copied_payload layer = spelled (head_fields layer.name.now) ++ (copied_core layer ++ spelled (extent_fields layer.extent))

-- a field of the bytes of an entry
abbrev pub field_of : {A : Type 0} → (A → List ℕ) → ℕ → A → Plain
field_of content number entry = plain number (bytes (content entry))

-- that of a payload that is lent
abbrev pub lent_field : ℕ → Bor (List ℕ) → Plain
lent_field number payload = plain number (bytes payload.now)

-- payloads in fields of a number, from one place to another
abbrev pub ArePayloadsFrom : List ℕ → ℕ → ℕ → List (Bor (List ℕ)) → ℕ → Type 0
ArePayloadsFrom body start number payloads at =
    (at ≤ length body) × (drop start body ≡ spelled (map (lent_field number) payloads) ++ drop at body)

-- so many fields of a number
abbrev pub AreFieldsFrom : List ℕ → ℕ → ℕ → ℕ → ℕ → Type 0
AreFieldsFrom body start number count at =
    (payloads : List (Bor (List ℕ))) × ArePayloadsFrom body start number payloads at × (length payloads ≡ count)

-- texts in the fields of keys
abbrev pub AreKeysFrom : List ℕ → ℕ → List (List ℕ) → ℕ → Type 0
AreKeysFrom body start keys at =
    (at ≤ length body) × (drop start body ≡ spelled (map key_field keys) ++ drop at body) × AllByRecursion IsUtf8 keys

-- values in their fields
abbrev pub AreValuesFrom : List ℕ → ℕ → List (Bor (List ℕ)) → ℕ → Type 0
AreValuesFrom body start payloads at =
    (at ≤ length body)
    × ((values : List Value) × (drop start body ≡ spelled (map value_field values) ++ drop at body) × AllByRecursion ValidValue values
    × (lent payloads ≡ map (λ (v : Value). spelled (value_fields v)) values))

-- the keys and the values of a layer, which are known to stand once each or aren't
pub record IsFrontOf (body : List ℕ) (front : Front) : Type 0 where
  pub keys_within : front.keys_at ≤ length body
  pub keys : ArePayloadsFrom body front.keys_at KEYS front.keys.items front.values_at
  pub texts : AllByRecursion IsUtf8 (lent front.keys.items)
  pub values : AreValuesFrom body front.values_at front.values.items front.end_at
  pub keys_apart : IsTrue front.is_apart → AreDistinct (lent front.keys.items)
  pub values_apart : IsTrue front.is_apart → AreDistinct (lent front.values.items)

-- what stands around the features, keys and values of a layer, and where its keys and values stand
pub record IsFrameOf (body : List ℕ) (frame : Frame) : Type 0 where
  pub around : IsAround body frame.name.now frame.extent frame.features_at frame.front.end_at
  pub is_front : IsFrontOf body frame.front
  pub behind : frame.features_at ≤ frame.front.keys_at

-- the version and the name stand in front, and the extent behind
abbrev pub IsInPlace : List ℕ → Frame → Type 0
IsInPlace body frame =
    (body ≡ spelled (head_fields frame.name.now) ++ drop frame.features_at body)
    × (drop frame.front.end_at body ≡ spelled (extent_fields frame.extent))

-- features in their fields, which use the first of the keys and of the values, in their order, and were told
pub record AreFeaturesFrom (WereTold : List Feature → Type 0) (body : List ℕ) (start : ℕ) (keys : List (List ℕ)) (values : List Value)
    (at : ℕ) (used : ℕ × ℕ) : Type 0 where
  pub features : List Feature
  pub fields : drop start body ≡ spelled (map (feature_field keys values) features) ++ drop at body
  pub valid : AllByRecursion ValidFeature features
  pub keys_are : keys_of features ≡ take used.0 keys
  pub values_are : values_of features ≡ take used.1 values
  pub ready : AreReady keys values used
  pub told : WereTold features
