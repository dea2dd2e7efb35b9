-- The tags read so far, and what each end of the reading shows.
use Rattle.std.proofs.Common.{◌≡◌, ℕ, zero, suc, ◌+◌, ◌-◌, ◌*◌, ◌%◌, ◌<◌, ◌≤◌, ◌==◌, nat_le, Bool, true, false, ◌||◌, List, [], ◌∷◌, ◌++◌, length, Some, None, bytes_eq, slice_get, refl, sym, ap, ap₂, ◌∙◌, arith, rules, length-drop, append_assoc, get_or, drop}
use Rattle.std.specs.List.{list_any}
use Rattle.std.specs.Option.{option_or}
use Rattle.std.proofs.lemmas.Bool.{le-leb, lt-leb, eq-eqb, eqb-true, ne_eqb}
use Rattle.std.proofs.lemmas.List.{length_push}
use Rattle.std.proofs.lemmas.Option.{slice_get_within}
use Rattle.std.proofs.lemmas.Slice.Eq.{bytes_eq-Decides}
use Rattle.mvt_base.specs.Related.{AreRelated}
use Rattle.mvt_base.specs.Rules.{Rules, when, each, first}
use Rattle.mvt_base.proofs.RuleLemmas.{first-rows, first-when, first-when_not, option_or-none, option_or-some, option_or-right, each_more, each_stops}
use Rattle.mvt_base.proofs.ListLemmas.{related-append}
use Rattle.mvt_attrs.specs.Values.{Value}
use Rattle.mvt_attrs.specs.declared.value.Attribute.{Attribute}
use Rattle.mvt_attrs.specs.declared.resolving.TagCause.{TagCause}
use Rattle.mvt_attrs.specs.declared.resolving.TagCause.TheVariants.{OddTags, KeyIndex, ValueIndex, RepeatedKey}
use Rattle.mvt_attrs.specs.Tags.{NamesOne}
use Rattle.mvt_attrs.specs.TagRules.{pairs_of, are_same_texts, name_one_key, count_rules, rules_of_pair, pair_rules, tag_fault}

-- the pairs before the rest of the tags name the attributes, and break no rule
pub record Progress (keys : List (List ℕ)) (values : List Value) (tags rest : List ℕ) (attributes : List Attribute) : Type 0 where
  pub done : List (ℕ × ℕ)
  pub pairs : pairs_of tags ≡ done ++ pairs_of rest
  pub count : length tags ≡ 2 * length done + length rest
  pub entries : AreRelated (NamesOne keys values) done attributes
  pub clean : first (each (rules_of_pair keys values) [] done) ≡ None

pub progress_none : (keys : List (List ℕ)) (values : List Value) (tags : List ℕ) → Progress keys values tags tags []
progress_none keys values tags = record { done = []; pairs = refl; count = omega arith; entries = tt; clean = refl }

-- a key that pairs before name is one of their attributes' keys
pub repeats-related : (keys : List (List ℕ)) (values : List Value) (done : List (ℕ × ℕ)) (attributes : List Attribute)
    (index : ℕ) (key : List ℕ)
    → AreRelated (NamesOne keys values) done attributes → slice_get keys index ≡ Some key
    → list_any (λ (earlier : ℕ × ℕ). name_one_key keys earlier.0 index) done ≡ list_any (λ (a : Attribute). bytes_eq a.key key) attributes
repeats-related keys values [] [] index key related at = refl
repeats-related keys values [] (a ∷ as') index key related at = absurd related
repeats-related keys values (p ∷ ps) [] index key related at = absurd related
repeats-related keys values (p ∷ ps) (a ∷ as') index key related at =
    ap₂ (λ x y. x || y) here (repeats-related keys values ps as' index key related.1 at)
  where
    texts : are_same_texts (slice_get keys p.0) (slice_get keys index) ≡ bytes_eq a.key key
    texts = ap₂ are_same_texts related.0.0 at

    by : (b : Bool) → (p.0 == index) ≡ b → (b || are_same_texts (slice_get keys p.0) (slice_get keys index)) ≡ bytes_eq a.key key
    by true e =
        let one : p.0 ≡ index = search (rules, eqb-true) in
        sym ((bytes_eq-Decides a.key key).1 (let both : Some a.key ≡ Some key = sym related.0.0 ∙ ap (slice_get keys) one ∙ at in cc))
    by false e = texts

    here : name_one_key keys p.0 index ≡ bytes_eq a.key key
    here = by (p.0 == index) refl

past_from_none : {X : Type 0} (xs : List X) (i : ℕ) → slice_get xs i ≡ None → length xs ≤ i
past_from_none [] i e = omega arith
past_from_none (x ∷ xs) zero e = cc
past_from_none (x ∷ xs) (suc i) e = omega (arith, past_from_none xs i e)

pub pair_in_front : (rest : List ℕ) → 2 ≤ length rest → pairs_of rest ≡ (get_or rest 0 0, get_or rest 1 0) ∷ pairs_of (drop 2 rest)
pair_in_front [] h = absurd (omega arith)
pair_in_front (k ∷ []) h = absurd (omega arith)
pair_in_front (k ∷ (v ∷ tags)) h = refl

pub no_pair_left : (rest : List ℕ) → length rest < 2 → pairs_of rest ≡ []
no_pair_left [] h = refl
no_pair_left (k ∷ []) h = refl
no_pair_left (k ∷ (v ∷ tags)) h = absurd (omega arith)

module _ (keys : List (List ℕ)) (values : List Value) (front : List (ℕ × ℕ)) (k v : ℕ) where
  abbrev pub repeated : Bool
  repeated = list_any (λ (earlier : ℕ × ℕ). name_one_key keys earlier.0 k) front

  abbrev pub value_row : Rules (ℕ × TagCause)
  value_row = when (nat_le (length values) v) (2 * length front + 1, ValueIndex)

  abbrev pub new_row : Rules (ℕ × TagCause)
  new_row = when repeated (2 * length front, RepeatedKey)

  -- the three rules of a pair, one after the other
  pub chain : first (rules_of_pair keys values front (k, v))
      ≡ option_or (first (when (nat_le (length keys) k) (2 * length front, KeyIndex)))
      (option_or (first value_row) (option_or (first new_row) None))
  chain =
      first-rows 0 (when (nat_le (length keys) k) (2 * length front, KeyIndex)) ((1, value_row) ∷ ((2, new_row) ∷ []))
      ∙ ap (λ o. option_or (first (when (nat_le (length keys) k) (2 * length front, KeyIndex))) o)
      (first-rows 1 value_row ((2, new_row) ∷ []) ∙ ap (λ o. option_or (first value_row) o) (first-rows 2 new_row []))

  pub no_key : slice_get keys k ≡ None → first (rules_of_pair keys values front (k, v)) ≡ Some (2 * length front, KeyIndex)
  no_key e = chain ∙ option_or-some _ _ _ (first-when (nat_le (length keys) k) _ (le-leb (length keys) k (past_from_none keys k e)))

  module _ (key : List ℕ) (there : slice_get keys k ≡ Some key) where
    after_key : first (rules_of_pair keys values front (k, v)) ≡ option_or (first value_row) (option_or (first new_row) None)
    after_key =
        chain
        ∙ option_or-none _ _
        (first-when_not (nat_le (length keys) k) _ (lt-leb (length keys) k (slice_get_within keys k key there)))

    pub no_value : slice_get values v ≡ None → first (rules_of_pair keys values front (k, v)) ≡ Some (2 * length front + 1, ValueIndex)
    no_value e =
        after_key
        ∙ option_or-some _ _ _ (first-when (nat_le (length values) v) _ (le-leb (length values) v (past_from_none values v e)))

    module _ (value : Value) (value_there : slice_get values v ≡ Some value) where
      after_value : first (rules_of_pair keys values front (k, v)) ≡ option_or (first new_row) None
      after_value =
          after_key
          ∙ option_or-none _ _
          (first-when_not (nat_le (length values) v) _
          (lt-leb (length values) v (slice_get_within values v value value_there)))

      pub old_key : repeated ≡ true → first (rules_of_pair keys values front (k, v)) ≡ Some (2 * length front, RepeatedKey)
      old_key e = after_value ∙ option_or-some _ _ _ (first-when repeated _ e)

      pub faultless_pair : repeated ≡ false → first (rules_of_pair keys values front (k, v)) ≡ None
      faultless_pair e = after_value ∙ option_or-none _ _ (first-when_not repeated _ e)

-- the fault of an even number of tags is that of their pairs
pub tag_fault-even : (keys : List (List ℕ)) (values : List Value) (tags : List ℕ) → (length tags % 2 ≡ 1 → ⊥)
    → tag_fault keys values tags ≡ first (each (rules_of_pair keys values) [] (pairs_of tags))
unfolding tag_fault count_rules pair_rules
tag_fault-even keys values tags even =
    first-rows 2 (count_rules tags) ((3, pair_rules keys values tags) ∷ [])
    ∙ option_or-none _ _ (first-when_not (length tags % 2 == 1) (length tags, OddTags) (ne_eqb (length tags % 2) 1 even))
    ∙ first-rows 3 (pair_rules keys values tags) []
    ∙ option_or-right (first (pair_rules keys values tags))

pub tag_fault-odd : (keys : List (List ℕ)) (values : List Value) (tags : List ℕ) → length tags % 2 ≡ 1
    → tag_fault keys values tags ≡ Some (length tags, OddTags)
unfolding tag_fault count_rules pair_rules
tag_fault-odd keys values tags odd =
    first-rows 2 (count_rules tags) ((3, pair_rules keys values tags) ∷ [])
    ∙ option_or-some _ _ _ (first-when (length tags % 2 == 1) (length tags, OddTags) (eq-eqb (length tags % 2) 1 odd))

-- how reading goes on, and where it stops
module _ (keys : List (List ℕ)) (values : List Value) (tags rest : List ℕ) (attributes : List Attribute)
    (so_far : Progress keys values tags rest attributes) where
  abbrev pair_here : ℕ × ℕ
  pair_here = (get_or rest 0 0, get_or rest 1 0)

  here : 2 ≤ length rest → pairs_of tags ≡ so_far.done ++ (pair_here ∷ pairs_of (drop 2 rest))
  here more = so_far.pairs ∙ ap (λ ps. so_far.done ++ ps) (pair_in_front rest more)

  module _ (even : length tags % 2 ≡ 1 → ⊥) (more : 2 ≤ length rest) where
    stops : (fault : ℕ × TagCause) → first (rules_of_pair keys values so_far.done pair_here) ≡ Some fault
        → tag_fault keys values tags ≡ Some fault
    stops fault reported_here =
        tag_fault-even keys values tags even ∙ ap (λ ps. first (each (rules_of_pair keys values) [] ps)) (here more)
        ∙ each_stops (rules_of_pair keys values) so_far.done pair_here (pairs_of (drop 2 rest)) fault so_far.clean reported_here

    place : (n : ℕ) → length tags - length rest ≡ 2 * length so_far.done
    place n = omega (arith, so_far.count)

    pub stops_without_key : None ≡ slice_get keys (get_or rest 0 0)
        → tag_fault keys values tags ≡ Some (length tags - length rest, KeyIndex)
    stops_without_key e =
        stops _ (no_key keys values so_far.done (get_or rest 0 0) (get_or rest 1 0) (sym e)) ∙ ap (λ n. Some (n, KeyIndex)) (sym (place 0))

    module _ (key : List ℕ) (there : Some key ≡ slice_get keys (get_or rest 0 0)) where
      pub stops_without_value : None ≡ slice_get values (get_or rest 1 0)
          → tag_fault keys values tags ≡ Some (length tags - length rest + 1, ValueIndex)
      stops_without_value e =
          stops _ (no_value keys values so_far.done (get_or rest 0 0) (get_or rest 1 0) key (sym there) (sym e))
          ∙ ap (λ n. Some (n + 1, ValueIndex)) (sym (place 0))

      module _ (value : Value) (value_there : Some value ≡ slice_get values (get_or rest 1 0)) where
        same_test : list_any (λ (earlier : ℕ × ℕ). name_one_key keys earlier.0 (get_or rest 0 0)) so_far.done
            ≡ list_any (λ (a : Attribute). bytes_eq a.key key) attributes
        same_test = repeats-related keys values so_far.done attributes (get_or rest 0 0) key so_far.entries (sym there)

        pub stops_at_repeat : list_any (λ (a : Attribute). bytes_eq a.key key) attributes ≡ true
            → tag_fault keys values tags ≡ Some (length tags - length rest, RepeatedKey)
        stops_at_repeat e =
            stops _
            (old_key keys values so_far.done (get_or rest 0 0) (get_or rest 1 0) key (sym there) value (sym value_there)
            (same_test ∙ e))
            ∙ ap (λ n. Some (n, RepeatedKey)) (sym (place 0))

        pub progress_more : (after : List ℕ) → after ≡ drop 2 rest
            → list_any (λ (a : Attribute). bytes_eq a.key key) attributes ≡ false
            → Progress keys values tags after (attributes ++ record { key = key; value = value } ∷ [])
        progress_more after e new = record {
          done = so_far.done ++ pair_here ∷ [];
          pairs =
              here more ∙ sym (append_assoc so_far.done (pair_here ∷ []) (pairs_of (drop 2 rest)))
              ∙ ap (λ r. (so_far.done ++ pair_here ∷ []) ++ pairs_of r) (sym e);
          count = omega (arith, so_far.count, length_push so_far.done pair_here, ap length e, length-drop 2 rest);
          entries =
              related-append (NamesOne keys values) so_far.done attributes (pair_here ∷ []) _ so_far.entries
              ((sym there, sym value_there), tt);
          clean =
              each_more (rules_of_pair keys values) so_far.done pair_here so_far.clean
              ∙ faultless_pair keys values so_far.done (get_or rest 0 0) (get_or rest 1 0) key (sym there) value
              (sym value_there) (same_test ∙ new);
        }
