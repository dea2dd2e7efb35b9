-- What is written of a layer so far.
use Rattle.std.proofs.Common.{◌≡◌, ℕ, ◌+◌, ◌*◌, ◌<◌, ◌≤◌, ◌⊎◌, inl, inr, List, [], ◌∷◌, ◌++◌, length, map, take, get_or, slice_get, Some, Result, Err, refl, sym, ap, ap₂, ◌∙◌, subst, arith, append_assoc, append-nil}
use Rattle.std.specs.List.{AllByRecursion}
use Rattle.std.specs.Result.{IsErrAnd}
use Rattle.std.proofs.lemmas.Option.{slice_get_within, get_or_from_slice_get}
use Rattle.std.proofs.lemmas.Result.{err_from_is_err_and}
use Rattle.std.proofs.lemmas.List.{append_cancel_right, map-append}
use Rattle.mvt_base.specs.declared.TheConstants.{LIMIT}
use Rattle.mvt_base.specs.Related.{Extends}
use Rattle.mvt_base.proofs.ListLemmas.{all_weaker, front_more}
use Rattle.mvt_attrs.specs.declared.pool_error.PoolError.{PoolError}
use Rattle.mvt_attrs.specs.declared.pool_error.PoolError.TheVariants as pools
use Rattle.mvt_attrs.specs.Values.{Value}
use Rattle.mvt_attrs.specs.FirstUse.{AreDistinct}
use Rattle.mvt_attrs.specs.Pools.{key_pool, value_pool}
use Rattle.mvt_attrs.specs.Tags.{Names}
use Rattle.mvt_attrs.specs.TagPlaces.{tags_in}
use Rattle.mvt_geometry.specs.Valid.{IsValid}
use Rattle.mvt_wire.specs.Field.{bytes}
use Rattle.mvt_wire.specs.Varint.{short}
use Rattle.mvt_wire.specs.Spelling.{Plain, short_field, spelled}
use Rattle.mvt_feature.specs.declared.feature.Feature.{Feature}
use Rattle.mvt_feature.specs.Valid.{ValidFeature}
use Rattle.mvt_attrs.proofs.AttrsLaws.{tags_stay}
use Rattle.mvt_wire.proofs.WireLaws.{spelled_parts}
use Rattle.mvt_message.specs.declared.item.Layer.{Layer as ALayer}
use Rattle.mvt_message.specs.declared.item_writing.PutError.TheVariants.{TooLarge}
use Rattle.mvt_message.specs.CanonicalItems.{keys_of, values_of, head_fields, feature_field, key_field, value_field, extent_fields, layer_fields}
use Rattle.mvt_message.specs.PutErrors.{of_pool}
use Rattle.mvt_message.specs.ValidItems.{ValidLayer}
use Rattle.mvt_message.proofs.CanonicalLemmas.{pools_within}
use Rattle.mvt_message.proofs.PoolLemmas.{keys_front, values_front, keys_past, values_past, keys_distinct, values_distinct}

pub pool_full : (e : PoolError) → of_pool e ≡ TooLarge → e ≡ pools.Full
pool_full pools.Memory h = cc
pool_full pools.Full h = refl

abbrev IsDrawn : Feature → Type 0
IsDrawn f = IsValid f.geometry

pub layer_geometries : (layer : ALayer) (features : List Feature) → ValidLayer layer → features ≡ layer.features
    → AllByRecursion IsDrawn features
unfolding ValidLayer
layer_geometries layer features valid is =
    subst (AllByRecursion IsDrawn) (sym is) (all_weaker ValidFeature IsDrawn (λ f h. h.drawn) layer.features valid.2)

-- the error that a `?` hands on
pub exit_is : {T E : Type 0} {e x : E} → (r : Result T E) → IsErrAnd r (λ y. y ≡ e) → r ≡ Err x → e ≡ x
exit_is {x} r exit is =
    let left = err_from_is_err_and r exit in
    let same = sym left.1 ∙ is in
    let here : left.0 ≡ x = cc in
    sym left.2 ∙ here

-- one more field of a list
pub spelled_more : {Y : Type 0} → (g : Y → Plain) (ys : List Y) (y : Y) (start : List ℕ)
    → (start ++ spelled (map g ys)) ++ short_field (g y).number (g y).content ≡ start ++ spelled (map g (ys ++ y ∷ []))
spelled_more g ys y start =
    let one = short_field (g y).number (g y).content in
    let joined : spelled (map g (ys ++ y ∷ [])) ≡ spelled (map g ys) ++ (one ++ []) =
    ap spelled (map-append g ys (y ∷ [])) ∙ spelled_parts (map g ys) (g y ∷ []) in
    append_assoc start (spelled (map g ys)) one
    ∙ ap (λ l. start ++ l) (ap (λ l. spelled (map g ys) ++ l) (sym (append-nil one)) ∙ sym joined)

pub list_step : {Y : Type 0} → (g : Y → Plain) (ys : List Y) (i : ℕ) {y : Y} (start : List ℕ) {old new : List ℕ}
    → i < length ys → get_or ys i y ≡ y → old ≡ start ++ spelled (map g (take i ys))
    → new ≡ old ++ short_field (g y).number (g y).content → new ≡ start ++ spelled (map g (take (i + 1) ys))
list_step g ys i {y} start within here was more =
    more ∙ ap (λ l. l ++ short_field (g y).number (g y).content) was ∙ spelled_more g (take i ys) y start
    ∙ ap (λ l. start ++ spelled (map g l)) (sym (front_more ys i y within (sym here)))

-- what has grown twice has grown
pub extends_more : (start grown : List ℕ) {old new : List ℕ} → old ≡ start ++ grown → Extends old new → Extends start new
extends_more start grown was more =
    (grown ++ more.0, more.1 ∙ ap (λ l. l ++ more.0) was ∙ append_assoc start grown more.0)

-- the head of a field, without the bytes that are to come
pub head_extends : (old new d : List ℕ) (number : ℕ) → new ++ d ≡ old ++ short_field number (bytes d) → Extends old new
unfolding short_field
head_extends old new d number is =
    let tag = short (8 * number + 2) in
    let len = short (length d) in
    let parts : old ++ (tag ++ (len ++ d)) ≡ (old ++ (tag ++ len)) ++ d =
    ap (λ l. old ++ l) (sym (append_assoc tag len d)) ∙ sym (append_assoc old (tag ++ len) d) in
    (tag ++ len, append_cancel_right new (old ++ (tag ++ len)) d (is ∙ parts))

-- where the entry was looked up
pub entry_step : {Y : Type 0} → (g : Y → Plain) (ys : List Y) (i : ℕ) {y : Y} (start : List ℕ) {old new : List ℕ}
    → Some y ≡ slice_get ys i → old ≡ start ++ spelled (map g (take i ys))
    → new ≡ old ++ short_field (g y).number (g y).content → new ≡ start ++ spelled (map g (take (i + 1) ys))
entry_step g ys i {y} start at was more =
    list_step g ys i start (slice_get_within ys i y (sym at)) (get_or_from_slice_get ys i y y (sym at)) was more

-- the tags of a feature name the same entries in the pools of all features
pub tags_last : (features done rest : List Feature) (f : Feature) (keys : List (List ℕ)) (values : List Value)
    → features ≡ done ++ rest → keys ≡ keys_of done → values ≡ values_of done
    → Names keys values (tags_in keys values f.attributes) f.attributes
    → tags_in keys values f.attributes ≡ tags_in (keys_of features) (values_of features) f.attributes
tags_last features done rest f keys values parts keys_are values_are names =
    let all_keys = keys_front done rest in
    let all_values = values_front done rest in
    let keys_grow : keys_of features ≡ keys ++ all_keys.0 =
    ap keys_of parts ∙ all_keys.1 ∙ ap (λ k. k ++ all_keys.0) (sym keys_are) in
    let values_grow : values_of features ≡ values ++ all_values.0 =
    ap values_of parts ∙ all_values.1 ∙ ap (λ k. k ++ all_values.0) (sym values_are) in
    let distinct_keys : AreDistinct keys = subst AreDistinct (sym keys_are) (keys_distinct done) in
    let distinct_values : AreDistinct values = subst AreDistinct (sym values_are) (values_distinct done) in
    tags_stay keys all_keys.0 values all_values.0 (tags_in keys values f.attributes) f.attributes distinct_keys distinct_values names
    ∙ ap₂ (λ ks vs. tags_in ks vs f.attributes) (sym keys_grow) (sym values_grow)

-- the parts of a layer's payload, in their order
abbrev pub head_part : ALayer → List ℕ
head_part layer = spelled (head_fields layer.name)

abbrev pub features_part : List Feature → List ℕ
features_part features = spelled (map (feature_field (keys_of features) (values_of features)) features)

abbrev pub keys_part : List (List ℕ) → List ℕ
keys_part keys = spelled (map key_field keys)

abbrev pub values_part : List Value → List ℕ
values_part values = spelled (map value_field values)

abbrev pub extent_part : ALayer → List ℕ
extent_part layer = spelled (extent_fields layer.extent)

abbrev pub pool_parts : ALayer → List ℕ
pool_parts layer = keys_part (keys_of layer.features) ++ (values_part (values_of layer.features) ++ extent_part layer)

pub layer_parts : (layer : ALayer) → spelled (layer_fields layer) ≡ head_part layer ++ (features_part layer.features ++ pool_parts layer)
layer_parts layer =
    let features = map (feature_field (keys_of layer.features) (values_of layer.features)) layer.features in
    let keys = map key_field (keys_of layer.features) in
    let values = map value_field (values_of layer.features) in
    let extent = extent_fields layer.extent in
    let last = ap (λ l. spelled keys ++ l) (spelled_parts values extent) in
    let behind = ap (λ l. spelled features ++ l) (spelled_parts keys (values ++ extent) ∙ last) in
    spelled_parts (head_fields layer.name) (features ++ (keys ++ (values ++ extent)))
    ∙ ap (λ l. head_part layer ++ l) (spelled_parts features (keys ++ (values ++ extent)) ∙ behind)

-- pools that a feature takes past a bound are fronts of the pools of all features
pub features_full : (features : List Feature) (i : ℕ) (f : Feature) (bound : ℕ) → i < length features → f ≡ get_or features i f
    → (bound < length (key_pool (keys_of (take i features)) f.attributes)) ⊎ (bound < length
    (value_pool (values_of (take i features)) f.attributes))
    → (bound ≤ length (keys_of features)) ⊎ (bound ≤ length (values_of features))
features_full features i f bound within here (inl more) = inl (let all = keys_past features i bound f within here more in omega arith)
features_full features i f bound within here (inr more) = inr (let all = values_past features i bound f within here more in omega arith)

-- a layer with so many keys or values is long
pub layer_long : (layer : ALayer) {features : List Feature} → features ≡ layer.features
    → (LIMIT ≤ length (keys_of features)) ⊎ (LIMIT ≤ length (values_of features)) → LIMIT < length (spelled (layer_fields layer))
layer_long layer is long =
    by_cause (subst (λ fs. (LIMIT ≤ length (keys_of fs)) ⊎ (LIMIT ≤ length (values_of fs))) is long)
  where
    by_cause : (LIMIT ≤ length (keys_of layer.features)) ⊎ (LIMIT ≤ length (values_of layer.features))
        → LIMIT < length (spelled (layer_fields layer))
    by_cause (inl h) = omega (arith, (pools_within (keys_of layer.features) (values_of layer.features) layer).0)
    by_cause (inr h) = omega (arith, (pools_within (keys_of layer.features) (values_of layer.features) layer).1)
