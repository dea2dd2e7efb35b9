-- The keys and the values that features use, feature by feature: the pools grow after what they hold.
use Rattle.std.proofs.Common.{◌≡◌, ℕ, ◌+◌, ◌<◌, List, [], ◌∷◌, ◌++◌, length, take, drop, get_or, sym, ap, ◌∙◌, arith, append-nil, length-append}
use Rattle.std.proofs.lemmas.Grind.{flat_map-append}
use Rattle.std.proofs.lemmas.List.{take-append-drop}
use Rattle.mvt_base.proofs.ListLemmas.{front_more}
use Rattle.mvt_attrs.specs.declared.value.Attribute.{Attribute}
use Rattle.mvt_attrs.specs.Values.{Value}
use Rattle.mvt_attrs.specs.FirstUse.{AreDistinct}
use Rattle.mvt_attrs.specs.Pools.{key_pool, value_pool}
use Rattle.mvt_attrs.proofs.AttrsLaws.{pool_entries_distinct_keys, pool_entries_distinct_values, pools_by_parts_keys, pools_by_parts_values, pools_grow_keys, pools_grow_values}
use Rattle.mvt_feature.specs.declared.feature.Feature.{Feature}
use Rattle.mvt_message.specs.CanonicalItems.{attributes_of, keys_of, values_of}

attributes-append : (fs gs : List Feature) → attributes_of (fs ++ gs) ≡ attributes_of fs ++ attributes_of gs
attributes-append fs gs = flat_map-append (λ (f : Feature). f.attributes) fs gs

attributes_more : (done : List Feature) (f : Feature) → attributes_of (done ++ f ∷ []) ≡ attributes_of done ++ f.attributes
attributes_more done f = attributes-append done (f ∷ []) ∙ ap (λ l. attributes_of done ++ l) (append-nil f.attributes)

-- ---- a pool of either kind

abbrev IsByParts : {X : Type 0} → (List X → List Attribute → List X) → Type 0
IsByParts {X} pool = (held : List X) (attributes more : List Attribute) → pool (pool held attributes) more ≡ pool held (attributes ++ more)

abbrev Grows : {X : Type 0} → (List X → List Attribute → List X) → Type 0
Grows {X} pool =
    (held : List X) (attributes more : List Attribute)
    → (added : List X) × (pool held (attributes ++ more) ≡ pool held attributes ++ added)

-- what features use of it
abbrev used : {X : Type 0} → (List X → List Attribute → List X) → List Feature → List X
used pool features = pool [] (attributes_of features)

used_more : {X : Type 0} → (pool : List X → List Attribute → List X) → IsByParts pool → (done : List Feature) (f : Feature)
    → pool (used pool done) f.attributes ≡ used pool (done ++ f ∷ [])
used_more pool by_parts done f = by_parts [] (attributes_of done) f.attributes ∙ ap (pool []) (sym (attributes_more done f))

used_front : {X : Type 0} → (pool : List X → List Attribute → List X) → Grows pool → (done rest : List Feature)
    → (added : List X) × (used pool (done ++ rest) ≡ used pool done ++ added)
used_front pool grows done rest =
    let grown = grows [] (attributes_of done) (attributes_of rest) in
    (grown.0, ap (pool []) (attributes-append done rest) ∙ grown.1)

-- with a feature it is a front of what all features use
used_past : {X : Type 0} → (pool : List X → List Attribute → List X) → IsByParts pool → Grows pool
    → (features : List Feature) (i bound : ℕ) (f : Feature) → i < length features → f ≡ get_or features i f
    → bound < length (pool (used pool (take i features)) f.attributes) → bound < length (used pool features)
used_past pool by_parts grows features i bound f within here more =
    let next = take (i + 1) features in
    let now : pool (used pool (take i features)) f.attributes ≡ used pool next =
    used_more pool by_parts (take i features) f ∙ ap (used pool) (sym (front_more features i f within here)) in
    let later = used_front pool grows next (drop (i + 1) features) in
    let all : used pool features ≡ used pool next ++ later.0 = ap (used pool) (sym (take-append-drop (i + 1) features)) ∙ later.1 in
    let size = ap length all ∙ length-append (used pool next) later.0 in
    omega (arith, size, ap length now)

-- ---- keys and values

pub keys_more : (done : List Feature) (f : Feature) → key_pool (keys_of done) f.attributes ≡ keys_of (done ++ f ∷ [])
unfolding keys_of
keys_more done f = used_more key_pool pools_by_parts_keys done f

pub values_more : (done : List Feature) (f : Feature) → value_pool (values_of done) f.attributes ≡ values_of (done ++ f ∷ [])
unfolding values_of
values_more done f = used_more value_pool pools_by_parts_values done f

pub keys_front : (done rest : List Feature) → (added : List (List ℕ)) × (keys_of (done ++ rest) ≡ keys_of done ++ added)
unfolding keys_of
keys_front done rest = used_front key_pool pools_grow_keys done rest

pub values_front : (done rest : List Feature) → (added : List Value) × (values_of (done ++ rest) ≡ values_of done ++ added)
unfolding values_of
values_front done rest = used_front value_pool pools_grow_values done rest

pub keys_past : (features : List Feature) (i bound : ℕ) (f : Feature) → i < length features → f ≡ get_or features i f
    → bound < length (key_pool (keys_of (take i features)) f.attributes) → bound < length (keys_of features)
unfolding keys_of
keys_past features i bound f within here more =
    used_past key_pool pools_by_parts_keys pools_grow_keys features i bound f within here more

pub values_past : (features : List Feature) (i bound : ℕ) (f : Feature) → i < length features → f ≡ get_or features i f
    → bound < length (value_pool (values_of (take i features)) f.attributes) → bound < length (values_of features)
unfolding values_of
values_past features i bound f within here more =
    used_past value_pool pools_by_parts_values pools_grow_values features i bound f within here more

pub keys_distinct : (done : List Feature) → AreDistinct (keys_of done)
unfolding keys_of
keys_distinct done = pool_entries_distinct_keys [] (attributes_of done)

pub values_distinct : (done : List Feature) → AreDistinct (values_of done)
unfolding values_of
values_distinct done = pool_entries_distinct_values [] (attributes_of done)
