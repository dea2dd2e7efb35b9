-- Tags as places in pools, which stay when pools grow.
use Rattle.std.proofs.Common.{◌≡◌, ℕ, ◌*◌, ◌%◌, ◌<◌, ◌≤◌, Bool, List, [], ◌∷◌, ◌++◌, length, map, Some, Contains, Decides, bytes_eq, slice_get, refl, sym, ap, subst, ◌∙◌, arith, length-append, append_assoc}
use Rattle.std.specs.List.{AllByRecursion}
use Rattle.std.proofs.lemmas.List.{map-append}
use Rattle.std.proofs.lemmas.List.Elements.{Contains-append_right}
use Rattle.std.proofs.lemmas.Slice.Eq.{bytes_eq-Decides}
use Rattle.mvt_base.specs.Related.{AreRelated}
use Rattle.mvt_base.proofs.ListLemmas.{related-append}
use Rattle.mvt_attrs.specs.Values.{Value}
use Rattle.mvt_attrs.specs.declared.value.Attribute.{Attribute}
use Rattle.mvt_attrs.specs.FirstUse.{first_use, AreDistinct}
use Rattle.mvt_attrs.specs.Values.{equal_values}
use Rattle.mvt_attrs.specs.Pools.{key_pool, value_pool}
use Rattle.mvt_attrs.specs.Tags.{Names, NamesOne}
use Rattle.mvt_attrs.specs.TagRules.{pairs_of}
use Rattle.mvt_attrs.specs.TagPlaces.{place_in, tags_in, IsIn}
use Rattle.mvt_attrs.proofs.EqualityLemmas.{equal_values-Decides}
use Rattle.mvt_attrs.proofs.FirstUseLemmas.{has-first_use, has_from_Contains, Contains_from_has, first_use-again, first_use-front, first_use-own, stands_at_place, place_in-distinct}
use Rattle.std.proofs.lemmas.Option.{slice_get_within}
use Rattle.mvt_attrs.proofs.ResolvedLemmas.{names_from_related, related_from_names}
use Rattle.mvt_attrs.proofs.PoolLemmas.{slice_get-front}

even_from_names : (keys : List (List ℕ)) (values : List Value) (tags : List ℕ) (attributes : List Attribute)
    → Names keys values tags attributes → length tags % 2 ≡ 1 → ⊥
even_from_names keys values tags attributes names odd = omega (arith, odd, names.twice)

-- tags name the same attributes in longer pools
pub names_longer : (keys more : List (List ℕ)) (values further : List Value) (tags : List ℕ) (attributes : List Attribute)
    → Names keys values tags attributes → Names (keys ++ more) (values ++ further) tags attributes
names_longer keys more values further tags attributes names = record {
  twice = names.twice;
  key = λ i a at. slice_get-front keys more _ _ (names.key i a at);
  value = λ i a at. slice_get-front values further _ _ (names.value i a at);
}

pairs_of-append : (tags more : List ℕ) → (length tags % 2 ≡ 1 → ⊥) → pairs_of (tags ++ more) ≡ pairs_of tags ++ pairs_of more
pairs_of-append [] more even = refl
pairs_of-append (k ∷ []) more even = absurd (even (omega arith))
pairs_of-append (k ∷ (v ∷ tags)) more even = ap (λ ps. (k, v) ∷ ps) (pairs_of-append tags more (λ odd. even (omega (arith, odd))))

-- a pair of tags more, which names an attribute
pub names_push : (keys : List (List ℕ)) (values : List Value) (tags : List ℕ) (attributes : List Attribute) (k v : ℕ) (a : Attribute)
    → Names keys values tags attributes → slice_get keys k ≡ Some a.key → slice_get values v ≡ Some a.value
    → Names keys values (tags ++ k ∷ (v ∷ [])) (attributes ++ a ∷ [])
names_push keys values tags attributes k v a names of_key of_value =
    let even = even_from_names keys values tags attributes names in
    names_from_related keys values (tags ++ k ∷ (v ∷ [])) (attributes ++ a ∷ [])
    (λ odd. even (omega (arith, odd, length-append tags (k ∷ (v ∷ [])))))
    (subst (λ ps. AreRelated (NamesOne keys values) ps (attributes ++ a ∷ [])) (sym (pairs_of-append tags (k ∷ (v ∷ [])) even))
    (related-append (NamesOne keys values) (pairs_of tags) attributes ((k, v) ∷ []) (a ∷ [])
    (related_from_names keys values tags attributes names) ((of_key, of_value), tt)))

-- tags that name attributes in pools without repeats are the places in these pools, and in all longer ones
pub names_places : (keys more : List (List ℕ)) (values further : List Value) (tags : List ℕ) (attributes : List Attribute)
    → AreDistinct keys → AreDistinct values → Names keys values tags attributes
    → tags ≡ tags_in (keys ++ more) (values ++ further) attributes
names_places keys more values further tags attributes distinct_keys distinct_values names =
    by tags attributes (even_from_names keys values tags attributes names) (related_from_names keys values tags attributes names)
  where
    by : (tags : List ℕ) (attributes : List Attribute) → (length tags % 2 ≡ 1 → ⊥)
        → AreRelated (NamesOne keys values) (pairs_of tags) attributes
        → tags ≡ tags_in (keys ++ more) (values ++ further) attributes
    by [] [] even related = refl
    by [] (a ∷ as') even related = absurd related
    by (k ∷ []) attributes even related = absurd (even (omega arith))
    by (k ∷ (v ∷ tags)) [] even related = absurd related
    by (k ∷ (v ∷ tags)) (a ∷ as') even related =
        let key = place_in-distinct bytes_eq bytes_eq-Decides keys more k a.key distinct_keys related.0.0 in
        let value = place_in-distinct equal_values equal_values-Decides values further v a.value distinct_values related.0.1 in
        λ j. sym key j ∷ (sym value j ∷ by tags as' (λ odd. even (omega (arith, odd))) related.1 j)

-- places in pools name the attributes that are there
pub places_name : (keys : List (List ℕ)) (values : List Value) (attributes : List Attribute)
    → AllByRecursion (IsIn keys values) attributes → Names keys values (tags_in keys values attributes) attributes
places_name keys values attributes all =
    names_from_related keys values (tags_in keys values attributes) attributes (λ odd. omega (arith, odd, twice attributes))
    (related attributes all)
  where
    twice : (as' : List Attribute) → length (tags_in keys values as') ≡ 2 * length as'
    twice [] = omega arith
    twice (a ∷ as') = omega (arith, twice as')

    related : (as' : List Attribute) → AllByRecursion (IsIn keys values) as'
        → AreRelated (NamesOne keys values) (pairs_of (tags_in keys values as')) as'
    related [] h = tt
    related (a ∷ as') h = (
      (
        stands_at_place bytes_eq bytes_eq-Decides a.key keys (has_from_Contains bytes_eq bytes_eq-Decides a.key keys h.0.0),
        stands_at_place equal_values equal_values-Decides a.value values
            (has_from_Contains equal_values equal_values-Decides a.value values h.0.1),
      ),
      related as' h.1,
    )

place_small : {A : Type 0}
    → (same : A → A → Bool) (decides : (x y : A) → Decides (same x y) (x ≡ y)) (ys : List A) (x : A) (bound : ℕ) → Contains ys x
    → length ys ≤ bound → place_in same ys x < bound
place_small same decides ys x bound h le =
    omega (
      arith,
      le,
      slice_get_within ys (place_in same ys x) x (stands_at_place same decides x ys (has_from_Contains same decides x ys h)),
    )

pub places_small : (keys : List (List ℕ)) (values : List Value) (attributes : List Attribute) (bound : ℕ)
    → AllByRecursion (IsIn keys values) attributes → length keys ≤ bound → length values ≤ bound
    → AllByRecursion (λ tag. tag < bound) (tags_in keys values attributes)
places_small keys values [] bound h few_keys few_values = tt
places_small keys values (a ∷ as') bound h few_keys few_values = (
  place_small bytes_eq bytes_eq-Decides keys a.key bound h.0.0 few_keys,
  (
    place_small equal_values equal_values-Decides values a.value bound h.0.1 few_values,
    places_small keys values as' bound h.1 few_keys few_values,
  ),
)

-- ---- what pools hold

module _ {A : Type 0} (same : A → A → Bool) (decides : (x y : A) → Decides (same x y) (x ≡ y)) (part : Attribute → A) (held : List A) where
  abbrev pool : List Attribute → List A
  pool attributes = first_use same (held ++ map part attributes)

  mapped : (attributes more : List Attribute) → held ++ map part (attributes ++ more) ≡ (held ++ map part attributes) ++ map part more
  mapped attributes more =
      ap (λ xs. held ++ xs) (map-append part attributes more) ∙ sym (append_assoc held (map part attributes) (map part more))

  pub pool_from : (attributes : List Attribute) (x : A) → Contains (pool attributes) x → Contains (held ++ map part attributes) x
  pool_from attributes x h =
      let all = held ++ map part attributes in
      Contains_from_has same decides x all (sym (has-first_use same decides x all) ∙ has_from_Contains same decides x (pool attributes) h)

  pub pool_has : (attributes : List Attribute) (x : A) → Contains (map part attributes) x → Contains (pool attributes) x
  pool_has attributes x h =
      let all = held ++ map part attributes in
      Contains_from_has same decides x (pool attributes)
      (has-first_use same decides x all
      ∙ has_from_Contains same decides x all (Contains-append_right held (map part attributes) x h))

  pub pool_by_parts : (attributes more : List Attribute) → first_use same (pool attributes ++ map part more) ≡ pool (attributes ++ more)
  pool_by_parts attributes more =
      first_use-again same decides (held ++ map part attributes) (map part more) ∙ ap (first_use same) (sym (mapped attributes more))

  pub pool_grows : (attributes more : List Attribute) → (added : List A) × (pool (attributes ++ more) ≡ pool attributes ++ added)
  pool_grows attributes more =
      let front = first_use-front same decides (held ++ map part attributes) (map part more) in
      (front.0, ap (first_use same) (mapped attributes more) ∙ front.1)

  pub pool_held : (attributes : List Attribute) → AreDistinct held → (added : List A) × (pool attributes ≡ held ++ added)
  pool_held attributes distinct =
      let front = first_use-front same decides held (map part attributes) in
      (front.0, front.1 ∙ ap (λ p. p ++ front.0) (first_use-own same decides held distinct))

-- attributes that were placed are in the pools
pub all_held : (held_keys : List (List ℕ)) (held_values : List Value) (front attributes back : List Attribute)
    → AllByRecursion
    (IsIn (key_pool held_keys (front ++ (attributes ++ back))) (value_pool held_values (front ++ (attributes ++ back))))
    attributes
all_held held_keys held_values front [] back = tt
all_held held_keys held_values front (a ∷ as') back =
    let all = front ++ (a ∷ (as' ++ back)) in (
      (
        pool_has bytes_eq bytes_eq-Decides (λ (b : Attribute). b.key) held_keys all a.key (there (λ (b : Attribute). b.key)),
        pool_has equal_values equal_values-Decides (λ (b : Attribute). b.value) held_values all a.value
            (there (λ (b : Attribute). b.value)),
      ),
      subst (λ xs. AllByRecursion (IsIn (key_pool held_keys xs) (value_pool held_values xs)) as')
          (append_assoc front (a ∷ []) (as' ++ back)) (all_held held_keys held_values (front ++ a ∷ []) as' back),
    )
  where
    there : {A : Type 0} (part : Attribute → A) → Contains (map part (front ++ (a ∷ (as' ++ back)))) (part a)
    there part =
        subst (λ xs. Contains xs (part a)) (sym (map-append part front (a ∷ (as' ++ back))))
        (Contains-append_right (map part front) (part a ∷ map part (as' ++ back)) (part a) (0, omega arith, refl))
