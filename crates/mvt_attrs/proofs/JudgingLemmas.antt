-- Judging tags by the marks of their keys' places, whatever the values are.
use Rattle.mvt_attrs.specs.Tags.{NamesOne}
use Rattle.std.proofs.Common.{◌≡◌, ℕ, ◌+◌, ◌-◌, ◌%◌, ◌<◌, ◌≤◌, ◌==◌, Bool, true, false, not, List, [], ◌∷◌, ◌++◌, length, get_or, set, drop, Some, None, slice_get, refl, sym, ap, ◌∙◌, inl, inr, arith}
use Rattle.std.proofs.lemmas.Option.{slice_get-get_or, slice_get_past, slice_get_within}
use Rattle.mvt_base.specs.Related.{AreRelated}
use Rattle.mvt_base.specs.Reports.{Reports}
use Rattle.mvt_attrs.specs.Values.{Value}
use Rattle.mvt_attrs.specs.declared.value.Attribute.{Attribute}
use Rattle.mvt_attrs.specs.declared.resolving.TagCause.TheVariants.{KeyIndex, ValueIndex, RepeatedKey}
use Rattle.mvt_attrs.specs.declared.resolving.TagError.{TagError}
use Rattle.mvt_attrs.specs.TagRules.{pairs_of, tag_fault, fault_of}
use Rattle.mvt_attrs.specs.Inner.Marking.{IsGrouped, IsMarked, AreBelow, IsIndexError}
use Rattle.mvt_attrs.proofs.MarkingLemmas.{marked_none, marked_more, repeated_before, new_before, below_marked}
use Rattle.mvt_attrs.proofs.ResolvedLemmas.{read_faultless, there}
use Rattle.mvt_attrs.proofs.TagLemmas.{Progress, progress_none, progress_more, stops_without_key, stops_without_value, stops_at_repeat}

-- whatever so many values there are, the pairs so far name attributes, and the places of their keys are marked
abbrev pub MarkedSoFar : List (List ℕ) → List ℕ → List ℕ → ℕ → ℕ → List ℕ → List ℕ → Type 0
MarkedSoFar keys first_indices named_by feature count tags rest =
    (values : List Value) → length values ≡ count
    → (attributes : List Attribute) × Progress keys values tags rest attributes × IsMarked keys first_indices named_by feature attributes

pub so_far_none : (keys : List (List ℕ)) (first_indices named_by : List ℕ) (feature count : ℕ) (tags : List ℕ) → AreBelow named_by feature
    → MarkedSoFar keys first_indices named_by feature count tags tags
so_far_none keys first_indices named_by feature count tags below =
    λ values e. ([], progress_none keys values tags, marked_none keys first_indices named_by feature below)

module _ (keys : List (List ℕ)) (first_indices named_by : List ℕ) (feature count : ℕ) (tags rest : List ℕ)
    (so_far : MarkedSoFar keys first_indices named_by feature count tags rest) (even : length tags % 2 ≡ 1 → ⊥) where
  module _ (more : 2 ≤ length rest) where
    pub key_stops : length keys ≤ get_or rest 0 0 → (values : List Value) → length values ≡ count
        → tag_fault keys values tags ≡ Some (length tags - length rest, KeyIndex)
    key_stops past = λ values e.
        stops_without_key keys values tags rest (so_far values e).0 (so_far values e).1 even more
        (sym (slice_get_past keys (get_or rest 0 0) past))

    module _ (within : get_or rest 0 0 < length keys) where
      pub value_stops : count ≤ get_or rest 1 0 → (values : List Value) → length values ≡ count
          → tag_fault keys values tags ≡ Some (length tags - length rest + 1, ValueIndex)
      value_stops past = λ values e.
          let key = there keys (get_or rest 0 0) within in
          stops_without_value keys values tags rest (so_far values e).0 (so_far values e).1 even more key.0 (sym key.1)
          (sym (slice_get_past values (get_or rest 1 0) (omega arith)))

      module _ (value_within : get_or rest 1 0 < count) (new : Bool)
          (is : new ≡ not (get_or named_by (get_or first_indices (get_or rest 0 0) 0) 0 == feature)) where
        pub repeat_stops : new ≡ false → (values : List Value) → length values ≡ count
            → tag_fault keys values tags ≡ Some (length tags - length rest, RepeatedKey)
        repeat_stops no_new = λ values e.
            let key = there keys (get_or rest 0 0) within in
            let value = there values (get_or rest 1 0) (omega arith) in
            let attributes = (so_far values e).0 in
            stops_at_repeat keys values tags rest attributes (so_far values e).1 even more key.0 (sym key.1) value.0 (sym value.1)
            (repeated_before keys first_indices named_by feature attributes (get_or rest 0 0) key.0 new (so_far values e).2 key.1 is no_new)

        pub so_far_more : (after : List ℕ) → after ≡ drop 2 rest → IsGrouped keys first_indices → length named_by ≡ length keys → new ≡ true
            → MarkedSoFar keys first_indices (set named_by (get_or first_indices (get_or rest 0 0) 0) feature) feature count tags after
        so_far_more after left groups room is_new = λ values e.
            let key = there keys (get_or rest 0 0) within in
            let value = there values (get_or rest 1 0) (omega arith) in
            let attributes = (so_far values e).0 in
            let unused = new_before keys first_indices named_by feature attributes (get_or rest 0 0) key.0 new (so_far values e).2 key.1
            is is_new in
            let one : Attribute = record { key = key.0; value = value.0 } in (
              attributes ++ one ∷ [],
              progress_more keys values tags rest attributes (so_far values e).1 even more key.0 (sym key.1) value.0
                  (sym value.1) after left unused,
              marked_more keys first_indices named_by feature attributes (get_or rest 0 0) one groups room key.1 (so_far values e).2,
            )

        pub below_more : IsGrouped keys first_indices → length named_by ≡ length keys → AreBelow named_by (feature + 1)
            → AreBelow (set named_by (get_or first_indices (get_or rest 0 0) 0) feature) (feature + 1)
        below_more groups room below =
            let key = there keys (get_or rest 0 0) within in
            below_marked keys first_indices named_by feature (get_or rest 0 0) key.0 groups room key.1 below

    -- the error of a pair that names no key, or no value
    pub indices_stop : (index : ℕ) → index ≡ length tags - length rest → (error : TagError)
        → IsIndexError keys count index (get_or rest 0 0) (get_or rest 1 0) error → (values : List Value)
        → length values ≡ count → Reports (fault_of error) (tag_fault keys values tags)
    indices_stop index at error (inl (past, is)) = λ values e. rw is (key_stops past values e ∙ ap (λ n. Some (n, KeyIndex)) (sym at))
    indices_stop index at error (inr (within, past, is)) =
        λ values e. rw is (value_stops within past values e ∙ ap (λ n. Some (n + 1, ValueIndex)) (sym at))

  pub so_far_ends : length rest < 2 → (values : List Value) → length values ≡ count → tag_fault keys values tags ≡ None
  so_far_ends short = λ values e. read_faultless keys values tags rest (so_far values e).0 (so_far values e).1 even short

-- ---- what the pair in front names

pub named_front : (keys : List (List ℕ)) (values : List Value) (rest : List ℕ) (to_come : List Attribute) → 2 ≤ length rest
    → AreRelated (NamesOne keys values) (pairs_of rest) to_come
    → (a : Attribute) × (more : List Attribute) × (to_come ≡ a ∷ more)
    × NamesOne keys values (get_or rest 0 0, get_or rest 1 0) a
    × AreRelated (NamesOne keys values) (pairs_of (drop 2 rest)) more
named_front keys values [] to_come h related = absurd (omega arith)
named_front keys values (k ∷ []) to_come h related = absurd (omega arith)
named_front keys values (k ∷ (v ∷ tags)) [] h related = absurd related
named_front keys values (k ∷ (v ∷ tags)) (a ∷ more) h related = (a, more, refl, related.0, related.1)

pub named_none : (keys : List (List ℕ)) (values : List Value) (rest : List ℕ) (to_come : List Attribute) → length rest < 2
    → AreRelated (NamesOne keys values) (pairs_of rest) to_come → to_come ≡ []
named_none keys values [] [] h related = refl
named_none keys values [] (a ∷ more) h related = absurd related
named_none keys values (k ∷ []) [] h related = refl
named_none keys values (k ∷ []) (a ∷ more) h related = absurd related
named_none keys values (k ∷ (v ∷ tags)) to_come h related = absurd (omega arith)

-- what an index gives
pub here_is : {X : Type 0} (xs : List X) (i : ℕ) (x y : X) → x ≡ get_or xs i x → slice_get xs i ≡ Some y → x ≡ y
here_is xs i x y is at =
    let within = slice_get_within xs i y at in
    let both : Some x ≡ Some y = ap Some is ∙ sym (slice_get-get_or xs i x within) ∙ at in
    cc
