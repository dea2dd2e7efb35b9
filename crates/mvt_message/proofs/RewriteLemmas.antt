-- What is written of a layer while its features are visited.
use Rattle.std.proofs.Common.{◌≡◌, ◌≢◌, ℕ, ◌<◌, ◌≤◌, ◌⊎◌, inl, inr, List, [], ◌∷◌, ◌++◌, length, map, refl, sym, ap, ap₂, ◌∙◌, subst, arith, append_assoc, append-nil, length-append}
use Rattle.std.proofs.lemmas.List.{map-append}
use Rattle.mvt_base.specs.declared.TheConstants.{LIMIT}
use Rattle.mvt_attrs.specs.Values.{Value}
use Rattle.mvt_attrs.specs.declared.used_entries.LayerEntries.{LayerEntries}
use Rattle.mvt_attrs.specs.Pools.{key_pool, value_pool}
use Rattle.mvt_attrs.specs.TagPlaces.{tags_in}
use Rattle.mvt_attrs.specs.Using.{used_of}
use Rattle.mvt_wire.specs.Field.{bytes}
use Rattle.mvt_wire.specs.Spelling.{short_field, spelled}
use Rattle.mvt_feature.specs.declared.feature.Feature.{Feature}
use Rattle.mvt_feature.specs.Canonical.{feature_fields}
use Rattle.mvt_feature.specs.Rewriting.{IsRewritten}
use Rattle.mvt_message.specs.declared.item.Layer.{Layer as ALayer}
use Rattle.mvt_message.specs.declared.item.Item.TheVariants.{Layer, Foreign}
use Rattle.mvt_message.specs.CanonicalItems.{canonical_item, keys_of, values_of, head_fields, feature_field, extent_fields, layer_fields}
use Rattle.mvt_message.specs.declared.layer_writer.LayerWriter.{LayerWriter}
use Rattle.mvt_message.specs.Rewriting.{AreWritten, HasGathered, HasWritten, HasWrittenUpTo, tail_of}
use Rattle.mvt_wire.proofs.WireLaws.{spelled_parts}
use Rattle.mvt_message.proofs.PoolLemmas.{keys_more, values_more}
use Rattle.mvt_message.proofs.PutLemmas.{spelled_more, tags_last, layer_parts, head_part, features_part, keys_part, values_part, extent_part, pool_parts}

pub keys_none : keys_of [] ≡ []
unfolding keys_of
keys_none = refl

pub values_none : values_of [] ≡ []
unfolding values_of
values_none = refl

pub written_none : (out : List ℕ) → out ≡ [] → AreWritten [] out
written_none out none more = none

pub used_keys : (features : List Feature) (f : Feature) (old new : LayerEntries) → (used_of old.keys) ≡ keys_of features
    → (used_of new.keys) ≡ key_pool (used_of old.keys) f.attributes → (used_of new.keys) ≡ keys_of (features ++ f ∷ [])
used_keys features f old new was grown = grown ∙ ap (λ k. key_pool k f.attributes) was ∙ keys_more features f

pub used_values : (features : List Feature) (f : Feature) (old new : LayerEntries) → (used_of old.values) ≡ values_of features
    → (used_of new.values) ≡ value_pool (used_of old.values) f.attributes → (used_of new.values) ≡ values_of (features ++ f ∷ [])
used_values features f old new was grown = grown ∙ ap (λ v. value_pool v f.attributes) was ∙ values_more features f

-- one feature more, with the tags that it has whatever features follow
pub written_more : (features : List Feature) (f : Feature) (old new : LayerEntries) (before after payload out longer : List ℕ)
    → AreWritten features out → (used_of old.keys) ≡ keys_of features → (used_of old.values) ≡ values_of features
    → before ≡ [] → IsRewritten f old new before after → payload ≡ after
    → longer ≡ out ++ short_field 2 (bytes payload) → AreWritten (features ++ f ∷ []) longer
written_more features f old new before after payload out longer written keys values nothing rewritten is grown more =
    let all = features ++ f ∷ [] in
    let now_keys = used_keys features f old new keys rewritten.0.keys in
    let now_values = used_values features f old new values rewritten.0.values in
    let field = feature_field (keys_of (all ++ more)) (values_of (all ++ more)) in
    let tags = tags_last (all ++ more) all more f (used_of new.keys) (used_of new.values) refl now_keys now_values rewritten.0.names in
    let whole : payload ≡ spelled (feature_fields (tags_in (keys_of (all ++ more)) (values_of (all ++ more)) f.attributes) f) =
    is ∙ rewritten.1 ∙ ap (λ b. b ++ spelled (feature_fields (tags_in (used_of new.keys) (used_of new.values) f.attributes) f)) nothing
    ∙ ap (λ t. spelled (feature_fields t f)) tags in
    let joined = append_assoc features (f ∷ []) more in
    let front : out ≡ spelled (map field features) =
    written (f ∷ more) ∙ ap (λ fs. spelled (map (feature_field (keys_of fs) (values_of fs)) features)) (sym joined) in
    grown ∙ ap₂ (λ o b. o ++ short_field 2 (bytes b)) front whole ∙ spelled_more field features f []

pub canonical_layer : (layer : ALayer) → canonical_item (Layer layer) ≡ spelled (layer_fields layer)
unfolding canonical_item
canonical_layer layer = refl

pub canonical_foreign : (version : ℕ) (content : List ℕ) → canonical_item (Foreign version content) ≡ content
unfolding canonical_item
canonical_foreign version content = refl

-- the parts of a layer, after one another
pub layer_rewritten : (layer : ALayer) (name : List ℕ) (extent : ℕ) (uses : LayerEntries) (done : List ℕ) → name ≡ layer.name
    → extent ≡ layer.extent → (used_of uses.keys) ≡ keys_of layer.features → (used_of uses.values) ≡ values_of layer.features
    → AreWritten layer.features done
    → canonical_item (Layer layer) ≡ spelled (head_fields name) ++ (done ++ tail_of uses extent)
layer_rewritten layer name extent uses done names extents keys_are values_are written =
    let all : done ≡ features_part layer.features =
    written [] ∙ ap (λ fs. spelled (map (feature_field (keys_of fs) (values_of fs)) layer.features)) (append-nil layer.features) in
    let ends : values_part (values_of layer.features) ++ extent_part layer
    ≡ values_part (used_of uses.values) ++ spelled (extent_fields extent) =
    ap₂ (λ v e. values_part v ++ spelled (extent_fields e)) (sym values_are) (sym extents) in
    canonical_layer layer ∙ layer_parts layer
    ∙ ap₂ (λ n b. spelled (head_fields n) ++ b) (sym names)
    (ap₂ (λ b t. b ++ t) (sym all) (ap₂ (λ k e. keys_part k ++ e) (sym keys_are) ends))

pub appended : (start head done tail whole a b c : List ℕ) → a ≡ start ++ head → b ≡ a ++ done → c ≡ b ++ tail
    → whole ≡ head ++ (done ++ tail) → c ≡ start ++ whole
appended start head done tail whole a b c ha hb hc is =
    hc ∙ ap (λ x. x ++ tail) (hb ∙ ap (λ x. x ++ done) ha) ∙ regroup start head done tail ∙ ap (λ w. start ++ w) (sym is)
  where
    regroup : (s h d t : List ℕ) → ((s ++ h) ++ d) ++ t ≡ s ++ (h ++ (d ++ t))
    regroup s h d t = simp append_assoc

-- features that follow too many bytes are left out

pub left_out_more : (keys : List (List ℕ)) (values : List Value) (w : LayerWriter) (features : List Feature) (f : Feature)
    → HasWrittenUpTo LIMIT keys values w features → LIMIT < length w.features.items
    → HasWrittenUpTo LIMIT keys values w (features ++ f ∷ [])
left_out_more keys values w features f has past = record {
  kept = has.kept;
  left_out = has.left_out ++ f ∷ [];
  features_are = ap (λ fs. fs ++ f ∷ []) has.features_are ∙ append_assoc has.kept has.left_out (f ∷ []);
  written = has.written;
  past = λ _. past;
}

none_left_out : (kept left_out : List Feature) (count : ℕ) → (left_out ≢ [] → LIMIT < count) → count ≤ LIMIT → kept ++ left_out ≡ kept
none_left_out kept [] count past within = append-nil kept
none_left_out kept (f ∷ left_out) count past within = absurd (let long = past (λ e. cc) in omega arith)

pub kept_all : (keys : List (List ℕ)) (values : List Value) (w : LayerWriter) (features : List Feature)
    → HasWrittenUpTo LIMIT keys values w features → length w.features.items ≤ LIMIT → HasWritten keys values w features
kept_all keys values w features has within =
    subst (HasWritten keys values w) (sym (has.features_are ∙ none_left_out has.kept has.left_out _ has.past within)) has.written

pub kept_more : (keys : List (List ℕ)) (values : List Value) (w : LayerWriter) (features : List Feature) (f : Feature)
    → HasWritten keys values w (features ++ f ∷ []) → HasWrittenUpTo LIMIT keys values w (features ++ f ∷ [])
kept_more keys values w features f written = record {
  kept = features ++ f ∷ [];
  left_out = [];
  features_are = sym (append-nil (features ++ f ∷ []));
  written = written;
  past = λ some. absurd (some refl);
}

-- nothing was added
pub nothing_written : (w : LayerWriter) → HasGathered w [] → HasWrittenUpTo LIMIT [] [] w []
nothing_written w has = record {
  kept = [];
  left_out = [];
  features_are = refl;
  written = record {
    uses = has.uses;
    keys_are = has.no_keys ∙ sym keys_none;
    values_are = has.no_values ∙ sym values_none;
    written = written_none _ has.no_features;
  };
  past = λ some. absurd (some refl);
}

-- a feature that has too many keys or values for the pools so far
pub too_many_more : (features : List Feature) (f : Feature) (old : LayerEntries) → used_of old.keys ≡ keys_of features
    → used_of old.values ≡ values_of features
    → (LIMIT < length (key_pool (used_of old.keys) f.attributes)) ⊎ (LIMIT < length (value_pool (used_of old.values) f.attributes))
    → (LIMIT < length (key_pool (keys_of features) f.attributes)) ⊎ (LIMIT < length (value_pool (values_of features) f.attributes))
too_many_more features f old keys values (inl many) = inl (subst (λ k. LIMIT < length (key_pool k f.attributes)) keys many)
too_many_more features f old keys values (inr many) = inr (subst (λ v. LIMIT < length (value_pool v f.attributes)) values many)

pub past_limit : (keys : List (List ℕ)) (values : List Value) (w : LayerWriter) (layer : ALayer)
    → HasWrittenUpTo LIMIT keys values w layer.features → LIMIT < length w.features.items → LIMIT < length (canonical_item (Layer layer))
past_limit keys values w layer has past =
    let field = feature_field (keys_of layer.features) (values_of layer.features) in
    let front : w.features.items ≡ spelled (map field has.kept) =
    has.written.written has.left_out
    ∙ ap (λ fs. spelled (map (feature_field (keys_of fs) (values_of fs)) has.kept)) (sym has.features_are) in
    let parts : features_part layer.features ≡ spelled (map field has.kept) ++ spelled (map field has.left_out) =
    ap (λ fs. spelled (map field fs)) has.features_are ∙ ap spelled (map-append field has.kept has.left_out)
    ∙ spelled_parts (map field has.kept) (map field has.left_out) in
    let whole = ap length (canonical_layer layer ∙ layer_parts layer) ∙ length-append (head_part layer) _ in
    let behind = length-append (features_part layer.features) (pool_parts layer) in
    let size = ap length parts ∙ length-append (spelled (map field has.kept)) (spelled (map field has.left_out)) in
    let same = ap length front in
    omega (arith, whole, behind, size, same)
