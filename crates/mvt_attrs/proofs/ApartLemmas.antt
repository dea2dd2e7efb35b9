-- Texts that are different: each is compared with those whose slots it meets.
use Rattle.std.proofs.Common.{◌≡◌, ◌≢◌, ℕ, ◌+◌, ◌-◌, ◌<◌, ◌≤◌, List, length, map, set, get_or, Some, slice_get, slice_index, inl, inr, sym, ap, subst, ◌∙◌, ⊎_elim, arith}
use Rattle.std.proofs.lemmas.Bool.{cases_eq, cases_lt}
use Rattle.std.proofs.lemmas.List.{get_or-map, get_or-set_same, get_or-set_other, length-map}
use Rattle.std.proofs.lemmas.Option.{get_or_from_slice_get, slice_get_within}
use Rattle.mvt_attrs.specs.FirstUse.{AreDistinct}
use Rattle.mvt_attrs.specs.Inner.Apart.{IsApart, AreApart, AreMarks, AreNoted, AreTaken, AreOthers, IsFreeFor, text_slot}
use Rattle.mvt_attrs.proofs.ResolvedLemmas.{there}

-- the bytes of the entry that was read
pub text_at : {A : Type 0} (bytes : A → List ℕ) (entries : List A) (k : ℕ) (x : A) (text : List ℕ) → x ≡ get_or entries k x
    → slice_get (map bytes entries) k ≡ Some text → text ≡ bytes x
text_at bytes entries k x text is at =
    let inside : k < length (map bytes entries) = slice_get_within (map bytes entries) k text at in
    sym (get_or_from_slice_get (map bytes entries) k text (bytes x) at)
    ∙ get_or-map bytes entries k x (bytes x) (omega (arith, length-map entries bytes, inside)) ∙ ap bytes (sym is)

-- what was compared
pub read_apart : {A : Type 0} (bytes : A → List ℕ) (entries : List A) (i j : ℕ) (x y : A) → x ≡ get_or entries i x
    → y ≡ get_or entries j y → bytes x ≢ bytes y → IsApart (map bytes entries) i j
read_apart bytes entries i j x y x_is y_is other a b at_i at_j same =
    other (sym (text_at bytes entries i x a x_is at_i) ∙ same ∙ text_at bytes entries j y b y_is at_j)

-- one more index
pub below_more : (P : ℕ → Type 0) (n : ℕ) → ((i : ℕ) → i < n → P i) → P n → (i : ℕ) → i < n + 1 → P i
below_more P n before here i lt =
    ⊎_elim (λ (e : i ≡ n). subst P (sym e) here) (λ (ne : i ≡ n → ⊥). before i (omega arith)) (cases_eq i n)

pub apart_more : (entries : List (List ℕ)) (n : ℕ) → AreApart entries n → ((i : ℕ) → i < n → IsApart entries i n)
    → AreApart entries (n + 1)
apart_more entries n before here i j lt within =
    ⊎_elim (λ (e : j ≡ n). subst (IsApart entries i) (sym e) (here i (omega arith)))
    (λ (ne : j ≡ n → ⊥). before i j lt (omega arith)) (cases_eq j n)

pub apart_distinct : (texts : List (List ℕ)) (n : ℕ) → length texts ≤ n → AreApart texts n → AreDistinct texts
apart_distinct texts n all apart i j d before inside same =
    let (a, at_i) = there texts i (omega arith) in
    let (b, at_j) = there texts j (omega arith) in
    apart i j before (omega arith) a b at_i at_j
    (sym (get_or_from_slice_get texts i a d at_i) ∙ same ∙ get_or_from_slice_get texts j b d at_j)

-- ---- slots

pub taken_more : (slots : List ℕ) (first slot : ℕ) → AreTaken slots first slot → slice_index slots slot ≢ 0
    → AreTaken slots first (slot + 1)
taken_more slots first slot before here q low high =
    ⊎_elim (λ (e : q ≡ slot). λ none. here (sym (ap (slice_index slots) e) ∙ none))
    (λ (ne : q ≡ slot → ⊥). before q low (omega arith)) (cases_eq q slot)

pub others_more : (entries : List (List ℕ)) (slots : List ℕ) (index first slot : ℕ) → AreOthers entries slots index first slot
    → IsApart entries (slice_index slots slot - 1) index → AreOthers entries slots index first (slot + 1)
others_more entries slots index first slot before here q i low high mark =
    ⊎_elim
    (λ (e : q ≡ slot).
    let marked : slice_index slots slot ≡ i + 1 = sym (ap (slice_index slots) e) ∙ mark in
    let back : slice_index slots slot - 1 ≡ i = omega arith in
    subst (λ k. IsApart entries k index) back here)
    (λ (ne : q ≡ slot → ⊥). before q i low (omega arith) mark) (cases_eq q slot)

module _ (entries : List (List ℕ)) (slots : List ℕ) (room n slot : ℕ) (entry : List ℕ) (here : slice_get entries n ≡ Some entry)
    (noted : AreNoted entries slots room n) (marks : AreMarks slots n)
    (free : IsFreeFor entries slots n (text_slot room entry) slot) where
  -- an equal entry would stand in a slot that was looked at
  pub slot_apart : (i : ℕ) → i < n → IsApart entries i n
  slot_apart i lt a b at_i at_n same =
      let both : Some b ≡ Some entry = sym at_n ∙ here in
      let one : b ≡ entry = cc in
      let (p, behind, mark, taken) = noted i a lt at_i in
      let first : text_slot room a ≡ text_slot room entry = ap (text_slot room) (same ∙ one) in
      elim (cases_lt p slot) [
        | inl less ↦ free.others p i (omega (arith, behind, first)) less mark a b at_i at_n same
        | inr more ↦
            ⊎_elim (λ (e : slot ≡ p). let zero_is = sym free.free ∙ ap (slice_index slots) e ∙ mark in absurd (omega (arith, zero_is)))
            (λ (ne : slot ≡ p → ⊥). taken slot (let low = free.behind in omega (arith, first)) (omega (arith, more)) free.free)
            (cases_eq slot p)
      ]

  after : List ℕ
  after = set slots slot (n + 1)

  at_slot : slice_index after slot ≡ n + 1
  unfolding after
  at_slot = get_or-set_same slots slot (n + 1) 0 free.within

  elsewhere : (q : ℕ) → (q ≡ slot → ⊥) → slice_index after q ≡ slice_index slots q
  unfolding after
  elsewhere q ne = get_or-set_other slots slot q (n + 1) 0 ne

  still_taken : (first to : ℕ) → AreTaken slots first to → AreTaken after first to
  still_taken first to taken q low high none =
      ⊎_elim (λ (e : q ≡ slot). let marked = sym none ∙ ap (slice_index after) e ∙ at_slot in absurd (omega (arith, marked)))
      (λ (ne : q ≡ slot → ⊥). taken q low high (sym (elsewhere q ne) ∙ none)) (cases_eq q slot)

  pub marks_more : AreMarks (set slots slot (n + 1)) (n + 1)
  unfolding after
  marks_more q =
      ⊎_elim (λ (e : q ≡ slot). let is = ap (slice_index after) e ∙ at_slot in omega (arith, is))
      (λ (ne : q ≡ slot → ⊥). let is = elsewhere q ne in omega (arith, is, marks q)) (cases_eq q slot)

  pub noted_more : AreNoted entries (set slots slot (n + 1)) room (n + 1)
  unfolding after
  noted_more i a lt at =
      ⊎_elim
      (λ (e : i ≡ n).
      let both : Some a ≡ Some entry = sym at ∙ ap (slice_get entries) e ∙ here in
      let one : a ≡ entry = cc in
      subst (λ t. (p : ℕ) × (text_slot room t ≤ p) × (slice_index after p ≡ i + 1) × AreTaken after (text_slot room t) p) (sym one)
      (slot, free.behind, at_slot ∙ ap (λ k. k + 1) (sym e), still_taken (text_slot room entry) slot free.taken))
      (λ (ne : i ≡ n → ⊥).
      let (p, behind, mark, taken) = noted i a (omega arith) at in
      let other : p ≡ slot → ⊥ = λ e. (let zero_is = sym mark ∙ ap (slice_index slots) e ∙ free.free in absurd (omega (arith, zero_is))) in
      (p, behind, elsewhere p other ∙ mark, still_taken (text_slot room a) p taken))
      (cases_eq i n)
