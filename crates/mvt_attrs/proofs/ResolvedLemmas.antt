-- Tags without a fault are resolved to just one list of attributes, and resolved tags have no fault.
use Rattle.std.proofs.Common.{◌≡◌, ◌≢◌, ℕ, zero, suc, ◌+◌, ◌*◌, ◌%◌, ◌<◌, nat_le, false, List, [], ◌∷◌, ◌++◌, length, get_or, Some, None, bytes_eq, slice_get, slice_index, refl, sym, ap, subst, ◌∙◌, arith, length-append, append_assoc, append-nil}
use Rattle.std.specs.List.{list_any}
use Rattle.std.proofs.lemmas.Bool.{leb-false, or_parts, or_from, false_from_ne_true, both_ways}
use Rattle.std.proofs.lemmas.List.{get_or_append_left, get_or_at}
use Rattle.std.proofs.lemmas.List.Quantifiers.{all_pairs_push}
use Rattle.std.proofs.lemmas.Option.{slice_get-get_or}
use Rattle.std.proofs.lemmas.Slice.Eq.{bytes_eq-Decides}
use Rattle.mvt_base.specs.Related.{AreRelated}
use Rattle.mvt_base.specs.Rules.{under, each, first}
use Rattle.mvt_base.proofs.RuleLemmas.{first-append, first-under, option_or-nones, option_or-none}
use Rattle.mvt_base.proofs.TableLemmas.{when_none}
use Rattle.mvt_base.proofs.ListLemmas.{related-append, related_once}
use Rattle.mvt_attrs.specs.Values.{Value}
use Rattle.mvt_attrs.specs.declared.value.Attribute.{Attribute}
use Rattle.mvt_attrs.specs.Tags.{Names, HasDistinctKeys, Resolved, has_key, NamesOne}
use Rattle.mvt_attrs.specs.TagRules.{pairs_of, name_one_key, rules_of_pair, tag_fault}
use Rattle.mvt_attrs.proofs.TagLemmas.{Progress, repeats-related, faultless_pair, no_pair_left, chain, tag_fault-even, tag_fault-odd}

-- ---- keys that differ

apart_from_test : (key : List ℕ) (attributes : List Attribute) → has_key key attributes ≡ false → (k : ℕ) (d : Attribute)
    → k < length attributes → (get_or attributes k d).key ≢ key
apart_from_test key [] new k d within e = omega arith
apart_from_test key (a ∷ as') new zero d within e =
    both_ways (bytes_eq a.key key) (or_parts (bytes_eq a.key key) (has_key key as') new).0 ((bytes_eq-Decides a.key key).1 e)
apart_from_test key (a ∷ as') new (suc k) d within e =
    apart_from_test key as' (or_parts (bytes_eq a.key key) (has_key key as') new).1 k d (omega arith) e

test_from_apart : (key : List ℕ) (attributes : List Attribute)
    → ((k : ℕ) (d : Attribute) → k < length attributes → (get_or attributes k d).key ≢ key) → has_key key attributes ≡ false
test_from_apart key [] apart = refl
test_from_apart key (a ∷ as') apart =
    or_from (bytes_eq a.key key) (has_key key as')
    (false_from_ne_true (bytes_eq a.key key) (λ e. apart 0 a (omega arith) ((bytes_eq-Decides a.key key).0 e)))
    (test_from_apart key as' (λ k d within. apart (suc k) d (omega arith)))

-- in a list of attributes with distinct keys, one is new after those before it
new_among : (front : List Attribute) (a : Attribute) (back : List Attribute) → HasDistinctKeys (front ++ a ∷ back)
    → has_key a.key front ≡ false
new_among front a back distinct =
    test_from_apart a.key front (λ k d within e.
    distinct k (length front) d within (omega (arith, length-append front (a ∷ back)))
    (ap (λ (b : Attribute). b.key) (get_or_append_left front (a ∷ back) d k within) ∙ e
    ∙ ap (λ (b : Attribute). b.key) (sym (get_or_at front a back d (length front) refl))))

-- ---- tags by places and by pairs

pub names_from_related : (keys : List (List ℕ)) (values : List Value) (tags : List ℕ) (attributes : List Attribute)
    → (length tags % 2 ≡ 1 → ⊥) → AreRelated (NamesOne keys values) (pairs_of tags) attributes → Names keys values tags attributes
names_from_related keys values [] [] even related = record { twice = omega arith; key = λ i a e. cc; value = λ i a e. cc }
names_from_related keys values [] (a ∷ as') even related = absurd related
names_from_related keys values (k ∷ []) attributes even related = absurd (even (omega arith))
names_from_related keys values (k ∷ (v ∷ tags)) [] even related = absurd related
names_from_related keys values (k ∷ (v ∷ tags)) (a ∷ as') even related =
    by (names_from_related keys values tags as' (λ odd. even (omega (arith, odd))) related.1)
  where
    by : Names keys values tags as' → Names keys values (k ∷ (v ∷ tags)) (a ∷ as')
    by rest = record { twice = omega (arith, rest.twice); key = of_key; value = of_value }
      where
        of_key : (i : ℕ) (b : Attribute) → slice_get (a ∷ as') i ≡ Some b
            → slice_get keys (slice_index (k ∷ (v ∷ tags)) (2 * i)) ≡ Some b.key
        of_key zero b e = let same : a ≡ b = cc in related.0.0 ∙ ap (λ (x : Attribute). Some x.key) same
        of_key (suc i) b e =
            let at : 2 * suc i ≡ suc (suc (2 * i)) = omega arith in
            ap (λ n. slice_get keys (slice_index (k ∷ (v ∷ tags)) n)) at ∙ rest.key i b e

        of_value : (i : ℕ) (b : Attribute) → slice_get (a ∷ as') i ≡ Some b
            → slice_get values (slice_index (k ∷ (v ∷ tags)) (2 * i + 1)) ≡ Some b.value
        of_value zero b e = let same : a ≡ b = cc in related.0.1 ∙ ap (λ (x : Attribute). Some x.value) same
        of_value (suc i) b e =
            let at : 2 * suc i + 1 ≡ suc (suc (2 * i + 1)) = omega arith in
            ap (λ n. slice_get values (slice_index (k ∷ (v ∷ tags)) n)) at ∙ rest.value i b e

pub related_from_names : (keys : List (List ℕ)) (values : List Value) (tags : List ℕ) (attributes : List Attribute)
    → Names keys values tags attributes → AreRelated (NamesOne keys values) (pairs_of tags) attributes
related_from_names keys values [] [] names = tt
related_from_names keys values [] (a ∷ as') names = absurd (omega (arith, names.twice))
related_from_names keys values (k ∷ []) [] names = absurd (omega (arith, names.twice))
related_from_names keys values (k ∷ []) (a ∷ as') names = absurd (omega (arith, names.twice))
related_from_names keys values (k ∷ (v ∷ tags)) [] names = absurd (omega (arith, names.twice))
related_from_names keys values (k ∷ (v ∷ tags)) (a ∷ as') names = (
  (names.key 0 a refl, names.value 0 a refl),
  related_from_names keys values tags as' (record {
    twice = omega (arith, names.twice);
    key =
        λ i b e. (let at : 2 * suc i
        ≡ suc (suc (2 * i)) = omega arith in ap (λ n. slice_get keys (slice_index (k ∷ (v ∷ tags)) n)) (sym at)
        ∙ names.key (suc i) b e);
    value =
        λ i b e. (let at : 2 * suc i + 1
        ≡ suc (suc (2 * i + 1)) = omega arith in ap (λ n. slice_get values (slice_index (k ∷ (v ∷ tags)) n)) (sym at)
        ∙ names.value (suc i) b e);
  }),
)

-- ---- a pair without a fault

pub record IsFaultless (keys : List (List ℕ)) (values : List Value) (front : List (ℕ × ℕ)) (pair : ℕ × ℕ) : Type 0 where
  pub key : nat_le (length keys) pair.0 ≡ false
  pub value : nat_le (length values) pair.1 ≡ false
  pub new : list_any (λ (earlier : ℕ × ℕ). name_one_key keys earlier.0 pair.0) front ≡ false

faultless_from : (keys : List (List ℕ)) (values : List Value) (front : List (ℕ × ℕ)) (k v : ℕ)
    → first (rules_of_pair keys values front (k, v)) ≡ None → IsFaultless keys values front (k, v)
faultless_from keys values front k v e =
    let outer = option_or-nones _ _ (sym (chain keys values front k v) ∙ e) in
    let inner = option_or-nones _ _ outer.1 in
    let last = option_or-nones _ _ inner.1 in
    record { key = when_none _ _ outer.0; value = when_none _ _ inner.0; new = when_none _ _ last.0 }

step_none : (keys : List (List ℕ)) (values : List Value) (front : List (ℕ × ℕ)) (p : ℕ × ℕ) (ps : List (ℕ × ℕ))
    → first (each (rules_of_pair keys values) front (p ∷ ps)) ≡ None
    → (first (rules_of_pair keys values front p) ≡ None) × (first (each (rules_of_pair keys values) (front ++ p ∷ []) ps) ≡ None)
step_none keys values front p ps e =
    let both =
    option_or-nones _ _
    (sym
    (first-append (under (length front) (rules_of_pair keys values front p))
    (each (rules_of_pair keys values) (front ++ p ∷ []) ps))
    ∙ e) in
    (sym (first-under (length front) (rules_of_pair keys values front p)) ∙ both.0, both.1)

distinct_each : (keys : List (List ℕ)) (values : List Value) (front ps : List (ℕ × ℕ)) (seen attributes : List Attribute)
    → AreRelated (NamesOne keys values) front seen → AreRelated (NamesOne keys values) ps attributes
    → first (each (rules_of_pair keys values) front ps) ≡ None → HasDistinctKeys seen → HasDistinctKeys (seen ++ attributes)
distinct_each keys values front [] seen [] before related clean distinct = subst HasDistinctKeys (sym (append-nil seen)) distinct
distinct_each keys values front [] seen (a ∷ as') before related clean distinct = absurd related
distinct_each keys values front (p ∷ ps) seen [] before related clean distinct = absurd related
distinct_each keys values front (p ∷ ps) seen (a ∷ as') before related clean distinct =
    let parts = step_none keys values front p ps clean in
    let new = (faultless_from keys values front p.0 p.1 parts.0).new in
    let unused : has_key a.key seen ≡ false = sym (repeats-related keys values front seen p.0 a.key before related.0.0) ∙ new in
    let wider : HasDistinctKeys (seen ++ a ∷ []) =
    all_pairs_push (λ (x y : Attribute). x.key ≢ y.key) seen a distinct (apart_from_test a.key seen unused) in
    subst HasDistinctKeys (append_assoc seen (a ∷ []) as')
    (distinct_each keys values (front ++ p ∷ []) ps (seen ++ a ∷ []) as'
    (related-append (NamesOne keys values) front seen (p ∷ []) (a ∷ []) before (related.0, tt)) related.1 parts.1 wider)

pub there : {X : Type 0} (xs : List X) (i : ℕ) → i < length xs → (x : X) × (slice_get xs i ≡ Some x)
there [] i within = absurd (omega arith)
there (x ∷ xs) i within = (get_or (x ∷ xs) i x, slice_get-get_or (x ∷ xs) i x within)

there_each : (keys : List (List ℕ)) (values : List Value) (front ps : List (ℕ × ℕ))
    → first (each (rules_of_pair keys values) front ps) ≡ None
    → (attributes : List Attribute) × AreRelated (NamesOne keys values) ps attributes
there_each keys values front [] clean = ([], tt)
there_each keys values front (p ∷ ps) clean =
    let parts = step_none keys values front p ps clean in
    let here = faultless_from keys values front p.0 p.1 parts.0 in
    let rest = there_each keys values (front ++ p ∷ []) ps parts.1 in
    let key = there keys p.0 (leb-false (length keys) p.0 here.key) in
    let value = there values p.1 (leb-false (length values) p.1 here.value) in
    (record { key = key.0; value = value.0 } ∷ rest.0, ((key.1, value.1), rest.1))

clean_each : (keys : List (List ℕ)) (values : List Value) (front ps : List (ℕ × ℕ)) (seen attributes : List Attribute)
    → AreRelated (NamesOne keys values) front seen → AreRelated (NamesOne keys values) ps attributes
    → HasDistinctKeys (seen ++ attributes) → first (each (rules_of_pair keys values) front ps) ≡ None
clean_each keys values front [] seen attributes before related distinct = refl
clean_each keys values front (p ∷ ps) seen [] before related distinct = absurd related
clean_each keys values front (p ∷ ps) seen (a ∷ as') before related distinct =
    let new = repeats-related keys values front seen p.0 a.key before related.0.0 ∙ new_among seen a as' distinct in
    first-append (under (length front) (rules_of_pair keys values front p)) (each (rules_of_pair keys values) (front ++ p ∷ []) ps)
    ∙ option_or-none _ _
    (first-under (length front) (rules_of_pair keys values front p)
    ∙ faultless_pair keys values front p.0 p.1 a.key related.0.0 a.value related.0.1 new)
    ∙ clean_each keys values (front ++ p ∷ []) ps (seen ++ a ∷ []) as'
    (related-append (NamesOne keys values) front seen (p ∷ []) (a ∷ []) before (related.0, tt)) related.1
    (subst HasDistinctKeys (sym (append_assoc seen (a ∷ []) as')) distinct)

-- ---- the laws

resolved_from : (keys : List (List ℕ)) (values : List Value) (tags : List ℕ) (attributes : List Attribute) → (length tags % 2 ≡ 1 → ⊥)
    → AreRelated (NamesOne keys values) (pairs_of tags) attributes
    → first (each (rules_of_pair keys values) [] (pairs_of tags)) ≡ None → Resolved keys values tags attributes
resolved_from keys values tags attributes even related clean = record {
  named = names_from_related keys values tags attributes even related;
  distinct = distinct_each keys values [] (pairs_of tags) [] attributes tt related clean (λ i j d before within e. omega arith);
}

even_from_none : (keys : List (List ℕ)) (values : List Value) (tags : List ℕ) → tag_fault keys values tags ≡ None → length tags % 2 ≡ 1 → ⊥
even_from_none keys values tags none odd = let e = sym (tag_fault-odd keys values tags odd) ∙ none in cc

pub there_law : (keys : List (List ℕ)) (values : List Value) (tags : List ℕ) → tag_fault keys values tags ≡ None
    → (attributes : List Attribute) × Resolved keys values tags attributes
there_law keys values tags none =
    let even = even_from_none keys values tags none in
    let clean = sym (tag_fault-even keys values tags even) ∙ none in
    let found = there_each keys values [] (pairs_of tags) clean in
    (found.0, resolved_from keys values tags found.0 even found.1 clean)

pub clean_law : (keys : List (List ℕ)) (values : List Value) (tags : List ℕ) (attributes : List Attribute)
    → Resolved keys values tags attributes → tag_fault keys values tags ≡ None
clean_law keys values tags attributes resolved =
    tag_fault-even keys values tags (λ odd. omega (arith, odd, resolved.named.twice))
    ∙ clean_each keys values [] (pairs_of tags) [] attributes tt (related_from_names keys values tags attributes resolved.named)
    resolved.distinct

one_attribute : (keys : List (List ℕ)) (values : List Value) (p : ℕ × ℕ) (a b : Attribute) → NamesOne keys values p a
    → NamesOne keys values p b → a ≡ b
one_attribute keys values p a b h k =
    let same_key : a.key ≡ b.key = (let both : Some a.key ≡ Some b.key = sym h.0 ∙ k.0 in cc) in
    let same_value : a.value ≡ b.value = (let both : Some a.value ≡ Some b.value = sym h.1 ∙ k.1 in cc) in
    λ j. record { key = same_key j; value = same_value j }

pub one_named : (keys : List (List ℕ)) (values : List Value) (tags : List ℕ) (attributes others : List Attribute)
    → Names keys values tags attributes → Names keys values tags others → attributes ≡ others
one_named keys values tags attributes others h k =
    related_once (NamesOne keys values) (one_attribute keys values) (pairs_of tags) attributes others
    (related_from_names keys values tags attributes h) (related_from_names keys values tags others k)

-- ---- the end of the reading

module _ (keys : List (List ℕ)) (values : List Value) (tags rest : List ℕ) (attributes : List Attribute)
    (read : Progress keys values tags rest attributes)
    (even : length tags % 2 ≡ 1 → ⊥) (short : length rest < 2) where
  all_done : read.done ≡ pairs_of tags
  all_done = sym (read.pairs ∙ ap (λ ps. read.done ++ ps) (no_pair_left rest short) ∙ append-nil read.done)

  all_clean : first (each (rules_of_pair keys values) [] (pairs_of tags)) ≡ None
  all_clean = subst (λ ps. first (each (rules_of_pair keys values) [] ps) ≡ None) all_done read.clean

  pub read_faultless : tag_fault keys values tags ≡ None
  read_faultless = tag_fault-even keys values tags even ∙ all_clean
