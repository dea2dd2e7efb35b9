-- A layer that is made canonical: its features are written after one another while others may follow.
use Rattle.std.specs.Prelude.{◌≡◌, ◌≢◌, ℕ, ◌<◌, List, [], ◌++◌, length, map, Option, MatchOption, Vec}
use Rattle.std.specs.Global.{Global}
use Rattle.mvt_attrs.specs.Values.{Value}
use Rattle.mvt_attrs.specs.declared.used_entries.LayerEntries.{LayerEntries}
use Rattle.mvt_attrs.specs.Using.{HasUses, used_of}
use Rattle.mvt_wire.specs.Spelling.{spelled}
use Rattle.mvt_feature.specs.declared.feature.Feature.{Feature}
use Rattle.mvt_message.specs.declared.layer_writer.LayerWriter.{LayerWriter}
use Rattle.mvt_message.specs.declared.item.Layer.{Layer as ALayer}
use Rattle.mvt_message.specs.declared.item.Item.TheVariants as items
use Rattle.mvt_message.specs.declared.layer_rewriting.LayerRewriter.{LayerRewriter}
use Rattle.mvt_message.specs.declared.layer_rewriting.Rewritten.{Rewritten}
use Rattle.mvt_message.specs.declared.layer_rewriting.Rewritten.TheVariants.{Layer, Foreign}
use Rattle.mvt_message.specs.CanonicalItems.{canonical_item, keys_of, values_of, head_fields, feature_field, key_field, value_field, extent_fields}
use Rattle.mvt_message.specs.Items.{IsItem}
use Rattle.mvt_message.specs.ValidItems.{ValidItem}
use Rattle.mvt_message.specs.Visiting.{OfFeatures}

-- their fields, whatever features follow
abbrev pub AreWritten : List Feature → List ℕ → Type 0
AreWritten features out =
    (more : List Feature)
    → out ≡ spelled (map (feature_field (keys_of (features ++ more)) (values_of (features ++ more))) features)

-- a layer's values so far
pub record HasGathered (w : LayerWriter) (values : List Value) : Type 0 where
  pub uses : HasUses w.uses [] values
  pub no_keys : used_of w.uses.keys ≡ []
  pub no_values : used_of w.uses.values ≡ []
  pub no_features : w.features.items ≡ []

-- and its features so far
pub record HasWritten (keys : List (List ℕ)) (values : List Value) (w : LayerWriter) (features : List Feature) : Type 0 where
  pub uses : HasUses w.uses keys values
  pub keys_are : used_of w.uses.keys ≡ keys_of features
  pub values_are : used_of w.uses.values ≡ values_of features
  pub written : AreWritten features w.features.items

-- the same, where features are left out that follow more bytes than a limit
pub record HasWrittenUpTo (limit : ℕ) (keys : List (List ℕ)) (values : List Value) (w : LayerWriter) (features : List Feature) : Type 0
  where
    pub kept : List Feature
    pub left_out : List Feature
    pub features_are : features ≡ kept ++ left_out
    pub written : HasWritten keys values w kept
    pub past : left_out ≢ [] → limit < length w.features.items

-- the canonical payload of a layer; none where it is longer than a limit
abbrev pub IsPayloadOf : ℕ → ALayer → Option (Vec ℕ Global) → Type 0
IsPayloadOf limit layer made =
    MatchOption made (limit < length (canonical_item (items.Layer layer))) (λ payload. payload.items ≡ canonical_item (items.Layer layer))

-- the fields of a layer behind its features
abbrev pub tail_of : LayerEntries → ℕ → List ℕ
tail_of uses extent =
    spelled (map key_field (used_of uses.keys)) ++ (spelled (map value_field (used_of uses.values)) ++ spelled (extent_fields extent))

-- a layer's values so far, before it is written; a visitor was told no feature
abbrev pub HasOnlyValues : {V : Type 0} → (V → List Feature → Type 0) → LayerRewriter V → List Value → Type 0
HasOnlyValues WasTold r values = (r.values.items ≡ values) × HasGathered r.writer [] × WasTold r.visitor []

-- its features so far, which the visitor was told
abbrev pub HasRewritten : {V : Type 0} → (V → List Feature → Type 0) → OfFeatures (LayerRewriter V)
HasRewritten WasTold keys values r payloads features = HasWritten keys values r.writer features × WasTold r.visitor features

-- a payload is the item that was made canonical, of whose features this visitor was told
abbrev pub IsRewrittenAs : {V : Type 0} → (V → List Feature → Type 0) → List ℕ → Rewritten V → Type 0
IsRewrittenAs WasTold payload (Layer r) =
    (layer : ALayer) × IsItem payload (items.Layer layer) × ValidItem (items.Layer layer) × (r.name.now ≡ layer.name)
    × WasTold r.visitor layer.features
    × (canonical_item (items.Layer layer)
    ≡ spelled (head_fields r.name.now) ++ (r.writer.features.items ++ tail_of r.writer.uses r.extent))
IsRewrittenAs WasTold payload (Foreign version) = IsItem payload (items.Foreign version payload) × ValidItem (items.Foreign version payload)
