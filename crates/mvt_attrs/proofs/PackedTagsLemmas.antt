-- Tags that are judged where they stand packed in bytes.
use Rattle.std.proofs.Common.{◌≡◌, ℕ, zero, suc, ◌+◌, ◌*◌, ◌<◌, ◌==◌, Bool, true, not, ◌&&◌, IsTrue, List, [], ◌∷◌, ◌++◌, length, get_or, set, refl, sym, ap, subst, ◌∙◌, arith, append_assoc, append-nil, length-append}
use Rattle.std.proofs.lemmas.Bool.{and_parts}
use Rattle.std.proofs.lemmas.Grind.{flat_map-append}
use Rattle.mvt_wire.specs.Varint.{short}
use Rattle.mvt_wire.specs.Packed.{ArePacked}
use Rattle.mvt_wire.specs.Spelling.{short_numbers}
use Rattle.mvt_attrs.specs.declared.packed_tags.Pair.{Pair}
use Rattle.mvt_attrs.specs.Inner.Fronts.{IsPairFront}
use Rattle.mvt_attrs.specs.Inner.Marking.{IsGrouped, AreBelow}
use Rattle.mvt_attrs.specs.Packed.{AreGoodTags}
use Rattle.mvt_attrs.specs.TagRules.{pairs_of}
use Rattle.mvt_attrs.proofs.JudgingLemmas.{MarkedSoFar, so_far_none, so_far_more, so_far_ends}

-- the tags in front of the rest break no rule, and the places of their keys are marked
pub record PackedSoFar {V : Type 0} (HasTags : V → List ℕ → V → Type 0) (start now : V) (bytes rest : List ℕ) (keys : List (List ℕ))
    (first_indices named_by : List ℕ) (feature values : ℕ) (is_short : Bool) : Type 0 where
  pub tags : List ℕ
  pub half : ℕ
  pub even : length tags ≡ 2 * half
  pub joins : (more : List ℕ) → ArePacked rest more → ArePacked bytes (tags ++ more)
  pub told : HasTags start tags now
  pub marked : MarkedSoFar keys first_indices named_by feature values tags []
  pub short : IsTrue is_short → bytes ≡ short_numbers tags ++ rest

pub packed_begins : {V : Type 0} (HasTags : V → List ℕ → V → Type 0) (start : V) (bytes : List ℕ) (keys : List (List ℕ))
    (first_indices named_by : List ℕ) (feature values : ℕ) → HasTags start [] start → AreBelow named_by feature
    → PackedSoFar HasTags start start bytes bytes keys first_indices named_by feature values true
packed_begins HasTags start bytes keys first_indices named_by feature values told below = record {
  tags = [];
  half = 0;
  even = refl;
  joins = λ more are. are;
  told = told;
  marked = so_far_none keys first_indices named_by feature values [] below;
  short = λ _. refl;
}

pairs_append : (xs ys : List ℕ) (n : ℕ) → length xs ≡ 2 * n → pairs_of (xs ++ ys) ≡ pairs_of xs ++ pairs_of ys
pairs_append [] ys n even = refl
pairs_append (x ∷ []) ys n even = absurd (omega arith)
pairs_append (x ∷ (y ∷ xs)) ys zero even = absurd (omega arith)
pairs_append (x ∷ (y ∷ xs)) ys (suc n) even = ap (λ ps. (x, y) ∷ ps) (pairs_append xs ys n (omega arith))

-- one more pair, which isn't judged yet
one_more : (keys : List (List ℕ)) (first_indices named_by : List ℕ) (feature values : ℕ) (tags : List ℕ) (key value half : ℕ)
    → length tags ≡ 2 * half → MarkedSoFar keys first_indices named_by feature values tags []
    → MarkedSoFar keys first_indices named_by feature values (tags ++ key ∷ (value ∷ [])) (key ∷ (value ∷ []))
one_more keys first_indices named_by feature values tags key value half even so_far = λ held e.
    let (attributes, progress, marked) = so_far held e in
    let pair : List ℕ = key ∷ (value ∷ []) in (
      attributes,
      record {
        done = progress.done;
        pairs = pairs_append tags pair half even ∙ ap (λ ps. ps ++ pairs_of pair) (progress.pairs ∙ append-nil progress.done);
        count = omega (arith, progress.count, length-append tags pair);
        entries = progress.entries;
        clean = progress.clean;
      },
      marked,
    )

pub packed_more : {V : Type 0} (HasTags : V → List ℕ → V → Type 0) (start old new : V) (bytes rest : List ℕ) (keys : List (List ℕ))
    (first_indices named_by : List ℕ) (feature values : ℕ) (is_short is_new : Bool) (pair : Pair)
    (so_far : PackedSoFar HasTags start old bytes rest keys first_indices named_by feature values is_short) → IsPairFront rest pair
    → pair.key < length keys → pair.value < values
    → is_new ≡ not (get_or named_by (get_or first_indices pair.key 0) 0 == feature) → is_new ≡ true
    → IsGrouped keys first_indices → length named_by ≡ length keys
    → HasTags start (so_far.tags ++ pair.key ∷ (pair.value ∷ [])) new
    → PackedSoFar HasTags start new bytes pair.after.now keys first_indices (set named_by (get_or first_indices pair.key 0) feature) feature
    values (is_short && pair.is_short)
packed_more HasTags start old new bytes rest keys first_indices named_by feature values is_short is_new pair so_far front key value is new_is
    grouped room told =
    let two : List ℕ = pair.key ∷ (pair.value ∷ []) in
    let long : length (so_far.tags ++ two) ≡ 2 * (so_far.half + 1) =
    omega (arith, so_far.even, length-append so_far.tags two) in
    record {
      tags = so_far.tags ++ two;
      half = so_far.half + 1;
      even = long;
      joins = λ more are.
          subst (ArePacked bytes) (sym (append_assoc so_far.tags two more)) (so_far.joins (two ++ more) (front.joins more are));
      told = told;
      marked = so_far_more keys first_indices named_by feature values (so_far.tags ++ two) two
          (one_more keys first_indices named_by feature values so_far.tags pair.key pair.value so_far.half so_far.even so_far.marked)
          (λ odd. omega (arith, long, odd)) (omega arith) key value is_new is [] refl grouped room new_is;
      short = λ both.
          let parts = and_parts is_short pair.is_short both in
          let rest_is : rest ≡ short_numbers two ++ pair.after.now =
          front.short parts.1
          ∙ ap (λ r. short pair.key ++ r)
          (ap (λ r. r ++ pair.after.now) (sym (append-nil (short pair.value))))
          ∙ sym (append_assoc (short pair.key) (short pair.value ++ []) pair.after.now) in
          so_far.short parts.0 ∙ ap (λ r. short_numbers so_far.tags ++ r) rest_is
          ∙ sym (append_assoc (short_numbers so_far.tags) (short_numbers two) pair.after.now)
          ∙ ap (λ r. r ++ pair.after.now) (sym (flat_map-append short so_far.tags two));
    }

pub packed_ends : {V : Type 0} (HasTags : V → List ℕ → V → Type 0) (start now : V) (bytes rest : List ℕ) (keys : List (List ℕ))
    (first_indices named_by : List ℕ) (feature values : ℕ) (is_short : Bool)
    → PackedSoFar HasTags start now bytes rest keys first_indices named_by feature values is_short → rest ≡ []
    → AreGoodTags HasTags start now bytes keys values is_short
packed_ends HasTags start now bytes rest keys first_indices named_by feature values is_short so_far none = record {
  tags = so_far.tags;
  packed = subst (ArePacked bytes) (append-nil so_far.tags) (so_far.joins [] (rw none refl));
  told = so_far.told;
  faultless = so_far_ends keys first_indices named_by feature values so_far.tags [] so_far.marked
      (λ odd. omega (arith, so_far.even, odd)) (omega arith);
  short = λ is. so_far.short is ∙ ap (λ r. short_numbers so_far.tags ++ r) none ∙ append-nil (short_numbers so_far.tags);
}

-- no tags at all
pub none_packed : {V : Type 0} (HasTags : V → List ℕ → V → Type 0) (start : V) (bytes : List ℕ) (keys : List (List ℕ)) (values : ℕ)
    → HasTags start [] start → bytes ≡ [] → AreGoodTags HasTags start start bytes keys values true
none_packed HasTags start bytes keys values told none =
    packed_ends HasTags start start bytes bytes keys [] [] 1 values true
    (packed_begins HasTags start bytes keys [] [] 1 values told (λ i. omega arith)) none
