-- A loop that places the keys and values of attributes in pools.
use Rattle.std.proofs.Common.{◌≡◌, ℕ, ◌+◌, ◌<◌, ◌≤◌, Bool, List, [], ◌∷◌, ◌++◌, length, map, take, get_or, Some, Result, Ok, Err, Contains, Decides, bytes_eq, slice_get, OnErr, drop, inl, inr, refl, sym, ap, ap₂, subst, ◌∙◌, arith, append_assoc, append-nil, length-append}
use Rattle.std.proofs.lemmas.List.{map_push, take_all, take-append-drop}
use Rattle.std.proofs.lemmas.Option.{slice_get_within, get_or_from_slice_get}
use Rattle.mvt_base.specs.declared.TheConstants.{LIMIT}
use Rattle.mvt_base.proofs.ListLemmas.{front_more}
use Rattle.mvt_attrs.specs.Inner.Places.{IsPut}
use Rattle.mvt_attrs.specs.Placed.{IsFullAt}
use Rattle.mvt_attrs.specs.Values.{Value}
use Rattle.mvt_attrs.specs.declared.value.Attribute.{Attribute}
use Rattle.mvt_attrs.specs.FirstUse.{first_use, AreDistinct}
use Rattle.mvt_attrs.specs.Pools.{key_pool, value_pool}
use Rattle.mvt_attrs.specs.Values.{equal_values}
use Rattle.std.proofs.lemmas.Slice.Eq.{bytes_eq-Decides}
use Rattle.mvt_attrs.proofs.EqualityLemmas.{equal_values-Decides}
use Rattle.mvt_attrs.specs.Tags.{Names}
use Rattle.mvt_attrs.specs.TagPlaces.{tags_in}
use Rattle.mvt_attrs.proofs.FirstUseLemmas.{put, put_is, put_cases, first_use-push, first_use-own, first_use-distinct}
use Rattle.mvt_attrs.proofs.PlaceLemmas.{names_longer, names_push, names_places, pool_grows}

module _ {A : Type 0} (same : A → A → Bool) (decides : (x y : A) → Decides (same x y) (x ≡ y)) (part : Attribute → A) where
  -- nothing placed yet
  pub pool_none : (held : List A) → AreDistinct held → held ≡ first_use same (held ++ [])
  pool_none held distinct = sym (ap (first_use same) (append-nil held) ∙ first_use-own same decides held distinct)

  -- one attribute more
  pub pool_more : (held pool after : List A) (attributes : List Attribute) (i : ℕ) (a : Attribute) (x : A)
      → pool ≡ first_use same (held ++ map part (take i attributes)) → i < length attributes → a ≡ get_or attributes i a
      → x ≡ part a → IsPut pool after x
      → after ≡ first_use same (held ++ map part (take (i + 1) attributes))
  pool_more held pool after attributes i a x so_far within at of_part placed =
      put_is same decides pool after x placed.kept placed.added
      ∙ ap₂ (put same decides) so_far of_part
      ∙ sym (first_use-push same decides (held ++ map part (take i attributes)) (part a))
      ∙ ap (first_use same) (append_assoc held (map part (take i attributes)) (part a ∷ [])
      ∙ ap (λ xs. held ++ xs) (sym (map_push part (take i attributes) a) ∙ ap (map part) (sym (front_more attributes i a within at))))

  -- a pool that is full has met a new entry: the pool of all attributes is longer
  pub pool_passes : (held pool : List A) (attributes : List Attribute) (i : ℕ) (a : Attribute) (x : A) (limit : ℕ)
      → pool ≡ first_use same (held ++ map part (take i attributes)) → i < length attributes → a ≡ get_or attributes i a → x ≡ part a
      → length pool ≡ limit → (Contains pool x → ⊥) → limit < length (first_use same (held ++ map part attributes))
  pool_passes held pool attributes i a x limit so_far within at of_part full new =
      let more =
      pool_more held pool (pool ++ x ∷ []) attributes i a x so_far within at of_part
      (record { kept = λ there. absurd (new there); added = λ _. refl }) in
      let grown = pool_grows same decides part held (take (i + 1) attributes) (drop (i + 1) attributes) in
      let all : first_use same (held ++ map part attributes) ≡ (pool ++ x ∷ []) ++ grown.0 =
      ap (λ as'. first_use same (held ++ map part as')) (sym (take-append-drop (i + 1) attributes)) ∙ grown.1
      ∙ ap (λ p. p ++ grown.0) (sym more) in
      omega (arith, ap length all, length-append (pool ++ x ∷ []) grown.0, length-append pool (x ∷ []), full)

  pub pool_longer : (pool after : List A) (x : A) → IsPut pool after x → (more : List A) × (after ≡ pool ++ more)
  pool_longer pool after x placed =
      subst (λ p. (more : List A) × (p ≡ pool ++ more)) (sym (put_is same decides pool after x placed.kept placed.added))
      (put_cases same decides (λ p. (more : List A) × (p ≡ pool ++ more)) pool x (λ e. ([], sym (append-nil pool))) (λ e. (x ∷ [], refl)))

-- the tags of one attribute more
pub names_more : (keys keys_after : List (List ℕ)) (values values_after : List Value) (tags : List ℕ) (attributes : List Attribute) (i : ℕ)
    (a : Attribute) (k v : ℕ)
    → Names keys values tags (take i attributes) → i < length attributes → a ≡ get_or attributes i a
    → (more : List (List ℕ)) × (keys_after ≡ keys ++ more) → (further : List Value) × (values_after ≡ values ++ further)
    → slice_get keys_after k ≡ Some a.key → slice_get values_after v ≡ Some a.value
    → Names keys_after values_after (tags ++ k ∷ (v ∷ [])) (take (i + 1) attributes)
names_more keys keys_after values values_after tags attributes i a k v names within at longer_keys longer_values of_key of_value =
    let longer : Names keys_after values_after tags (take i attributes) =
    subst (λ ks. Names ks values_after tags (take i attributes)) (sym longer_keys.1)
    (subst (λ vs. Names (keys ++ longer_keys.0) vs tags (take i attributes)) (sym longer_values.1)
    (names_longer keys longer_keys.0 values longer_values.0 tags (take i attributes) names)) in
    subst (λ as'. Names keys_after values_after (tags ++ k ∷ (v ∷ [])) as')
    (sym (front_more attributes i a within at))
    (names_push keys_after values_after tags (take i attributes) k v a longer of_key of_value)

pub names_none : (keys : List (List ℕ)) (values : List Value) → Names keys values [] []
names_none keys values = record { twice = omega arith; key = λ i a at. cc; value = λ i a at. cc }

-- pools after attributes placed, where each entry that is met is placed or its pool is full
pub keys_more : (held pool after : List (List ℕ)) (attributes : List Attribute) (i : ℕ) (a : Attribute) (key : List ℕ)
    → pool ≡ key_pool held (take i attributes) → i < length attributes → a ≡ get_or attributes i a → key ≡ a.key → IsPut pool after key
    → after ≡ key_pool held (take (i + 1) attributes)
keys_more held pool after attributes i a key so_far within at of_key placed =
    pool_more bytes_eq bytes_eq-Decides (λ (b : Attribute). b.key) held pool after attributes i a key so_far within at of_key placed

pub values_more : (held pool after : List Value) (attributes : List Attribute) (i : ℕ) (a : Attribute)
    → pool ≡ value_pool held (take i attributes) → i < length attributes → a ≡ get_or attributes i a → IsPut pool after a.value
    → after ≡ value_pool held (take (i + 1) attributes)
values_more held pool after attributes i a so_far within at placed =
    pool_more equal_values equal_values-Decides (λ (b : Attribute). b.value) held pool after attributes i a a.value so_far
    within at refl placed

-- no pool is full at an attribute where neither entry finds its pool so
pub not_full_at : (attributes : List Attribute) (i : ℕ) (a : Attribute) (key : List ℕ) (keys : List (List ℕ)) (values : List Value)
    → a ≡ get_or attributes i a → key ≡ a.key
    → ((length keys ≡ LIMIT) × (Contains keys key → ⊥) → ⊥)
    → (Contains keys key → (length values ≡ LIMIT) × (Contains values a.value → ⊥) → ⊥)
    → IsFullAt i attributes keys values → ⊥
not_full_at attributes i a key keys values at of_key no_key no_value full =
    let is : full.0 ≡ a = sym (get_or_from_slice_get attributes i full.0 a full.1) ∙ sym at in
    let same_key : full.0.key ≡ key = ap (λ (b : Attribute). b.key) is ∙ sym of_key in
    let same_value : full.0.value ≡ a.value = ap (λ (b : Attribute). b.value) is in
    elim full.2 [
      | inl key_full ↦ no_key (key_full.0, λ there. key_full.1 (subst (Contains keys) (sym same_key) there))
      | inr value_full ↦ no_value (subst (Contains keys) same_key value_full.0)
          (value_full.1, λ there. value_full.2 (subst (Contains values) (sym same_value) there))
    ]

pub contains_at : {A : Type 0} (xs : List A) (i : ℕ) (x : A) → slice_get xs i ≡ Some x → Contains xs x
contains_at xs i x at = (i, slice_get_within xs i x at, get_or_from_slice_get xs i x x at)

-- tags in pools that are first uses are the places there
pub all_places : (held_keys keys : List (List ℕ)) (held_values values : List Value) (tags : List ℕ) (attributes : List Attribute) (i : ℕ)
    → length attributes ≤ i → keys ≡ key_pool held_keys (take i attributes)
    → values ≡ value_pool held_values (take i attributes) → Names keys values tags (take i attributes)
    → tags ≡ tags_in keys values attributes
all_places held_keys keys held_values values tags attributes i past of_keys of_values names =
    let distinct_keys : AreDistinct keys = subst AreDistinct (sym of_keys) (first_use-distinct bytes_eq bytes_eq-Decides _) in
    let distinct_values : AreDistinct values = subst AreDistinct (sym of_values) (first_use-distinct equal_values equal_values-Decides _) in
    names_places keys [] values [] tags attributes distinct_keys distinct_values
    (subst (λ as'. Names keys values tags as') (take_all i attributes past) names)
    ∙ ap₂ (λ ks vs. tags_in ks vs attributes) (append-nil keys) (append-nil values)

pub all_named : (held_keys keys : List (List ℕ)) (held_values values : List Value) (tags : List ℕ) (attributes : List Attribute) (i : ℕ)
    → length attributes ≤ i → keys ≡ key_pool held_keys (take i attributes)
    → values ≡ value_pool held_values (take i attributes) → Names keys values tags (take i attributes)
    → Names keys values (tags_in keys values attributes) attributes
all_named held_keys keys held_values values tags attributes i past of_keys of_values names =
    subst (λ ts. Names keys values ts attributes)
    (all_places held_keys keys held_values values tags attributes i past of_keys of_values names)
    (subst (λ as'. Names keys values tags as') (take_all i attributes past) names)

-- a call that failed left what was appended so far
pub tags_left_at : {T E : Type 0} → (r : Result T E) (old new so_far : List ℕ) → new ≡ old ++ so_far
    → OnErr r ((more : List ℕ) × (new ≡ old ++ more))
tags_left_at (Ok x) old new so_far e = tt
tags_left_at (Err d) old new so_far e = (so_far, e)

-- tags told so far are the places in the pools, which may have grown since
pub reported_tags : (held_keys keys keys_after : List (List ℕ)) (held_values values values_after : List Value) (tags old new : List ℕ)
    (attributes : List Attribute)
    → keys ≡ key_pool held_keys attributes → values ≡ value_pool held_values attributes → Names keys values tags attributes
    → (more : List (List ℕ)) × (keys_after ≡ keys ++ more) → (further : List Value) × (values_after ≡ values ++ further)
    → new ≡ old ++ tags → new ≡ old ++ tags_in keys_after values_after attributes
reported_tags held_keys keys keys_after held_values values values_after tags old new attributes of_keys of_values names
    more_keys more_values is =
    let distinct_keys : AreDistinct keys = subst AreDistinct (sym of_keys) (first_use-distinct bytes_eq bytes_eq-Decides _) in
    let distinct_values : AreDistinct values = subst AreDistinct (sym of_values) (first_use-distinct equal_values equal_values-Decides _) in
    is ∙ ap (λ ts. old ++ ts) (names_places keys more_keys.0 values more_values.0 tags attributes distinct_keys distinct_values names
    ∙ ap₂ (λ ks vs. tags_in ks vs attributes) (sym more_keys.1) (sym more_values.1))

pub not_longer : {A : Type 0} (xs ys : List A) → ys ≡ xs → (more : List A) × (ys ≡ xs ++ more)
not_longer xs ys e = ([], e ∙ sym (append-nil xs))
