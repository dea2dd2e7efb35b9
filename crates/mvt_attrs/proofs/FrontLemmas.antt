-- Entries that stand once each, and the first of them.
use Rattle.std.proofs.Common.{◌≡◌, ◌⊎◌, ℕ, zero, suc, ◌<◌, ◌≤◌, List, ◌∷◌, [], ◌++◌, length, take, get_or, Some, Contains, slice_get, inl, inr, refl, sym, ap, subst, ◌∙◌, ⊎_elim, arith}
use Rattle.std.proofs.lemmas.Bool.{cases_eq, cases_lt}
use Rattle.std.proofs.lemmas.List.{get_or-take, length-take-le, take_all}
use Rattle.std.proofs.lemmas.Option.{slice_get_within, get_or_from_slice_get, slice_get-get_or}
use Rattle.mvt_base.proofs.ListLemmas.{front_more}
use Rattle.mvt_attrs.specs.FirstUse.{AreDistinct}
use Rattle.mvt_attrs.specs.FirstUses.{IsUseOf}
use Rattle.mvt_attrs.specs.Inner.Places.{IsPut}

-- an entry of a list without repeats stands at one place
pub one_place : {A : Type 0} → (xs : List A) (p q : ℕ) (x : A) → AreDistinct xs → slice_get xs p ≡ Some x → slice_get xs q ≡ Some x → p ≡ q
one_place xs p q x apart at_p at_q =
    let here = get_or_from_slice_get xs p x x at_p ∙ sym (get_or_from_slice_get xs q x x at_q) in
    let in_p = slice_get_within xs p x at_p in
    let in_q = slice_get_within xs q x at_q in
    ⊎_elim (λ (e : p ≡ q). e)
    (λ (ne : p ≡ q → ⊥). absurd (two here in_p in_q ne))
    (cases_eq p q)
  where
    two : get_or xs p x ≡ get_or xs q x → p < length xs → q < length xs → (p ≡ q → ⊥) → ⊥
    two e in_p in_q ne = by (less p q)
      where
        less : (a b : ℕ) → (a < b) ⊎ (b ≤ a)
        less zero zero = inr (omega arith)
        less zero (suc b) = inl (omega arith)
        less (suc a) zero = inr (omega arith)
        less (suc a) (suc b) =
            elim (less a b) [
              | inl lt ↦ inl (omega arith)
              | inr le ↦ inr (omega arith)
            ]

        by : (p < q) ⊎ (q ≤ p) → ⊥
        by (inl lt) = apart p q x lt in_q e
        by (inr le) = apart q p x (omega arith) in_p (sym e)

-- what stands in front
pub front_at : {A : Type 0} → (xs : List A) (n i : ℕ) → i < n → slice_get (take n xs) i ≡ slice_get xs i
front_at [] zero i lt = absurd (omega arith)
front_at [] (suc n) i lt = refl
front_at (x ∷ xs) zero i lt = absurd (omega arith)
front_at (x ∷ xs) (suc n) zero lt = refl
front_at (x ∷ xs) (suc n) (suc i) lt = front_at xs n i (omega arith)

pub front_within : {A : Type 0} → (xs : List A) (n i : ℕ) (x : A) → slice_get (take n xs) i ≡ Some x → i < n
front_within [] zero i x at = cc
front_within [] (suc n) i x at = cc
front_within (y ∷ xs) zero i x at = cc
front_within (y ∷ xs) (suc n) zero x at = omega arith
front_within (y ∷ xs) (suc n) (suc i) x at = let lt = front_within xs n i x at in omega arith

pub distinct_front : {A : Type 0} → (xs : List A) (n : ℕ) → n ≤ length xs → AreDistinct xs → AreDistinct (take n xs)
distinct_front xs n within apart i j d before inside e =
    let size : length (take n xs) ≡ n = length-take-le n xs within in
    apart i j d before (omega arith) (sym (get_or-take n xs i d (omega arith)) ∙ e ∙ get_or-take n xs j d (omega arith))

module _ {A : Type 0} (xs : List A) (apart : AreDistinct xs) (used : ℕ) (within : used ≤ length xs) where
  size : length (take used xs) ≡ used
  size = length-take-le used xs within

  in_front : (k : ℕ) (x : A) → k < used → slice_get xs k ≡ Some x → slice_get (take used xs) k ≡ Some x
  in_front k x lt at =
      slice_get-get_or (take used xs) k x (omega (arith, size)) ∙ ap Some (get_or-take used xs k x lt ∙ get_or_from_slice_get xs k x x at)

  from_front : (x : A) → Contains (take used xs) x → (k : ℕ) × (k < used) × (slice_get xs k ≡ Some x)
  from_front x (k, lt, is) =
      let less : k < used = omega (arith, size) in
      (k, less, slice_get-get_or xs k x (omega arith) ∙ ap Some (sym (get_or-take used xs k x less) ∙ is))

  there : (k : ℕ) (x : A) → k < used → slice_get xs k ≡ Some x → Contains (take used xs) x
  there k x lt at = (k, omega (arith, size), get_or-take used xs k x lt ∙ get_or_from_slice_get xs k x x at)

  pub use_step : (k after : ℕ) (x : A) → slice_get xs k ≡ Some x → IsUseOf used k after
      → IsPut (take used xs) (take after xs) x × (slice_get (take after xs) k ≡ Some x) × (after ≤ length xs)
  use_step k after x at (inl (lt, is)) =
      let same : take after xs ≡ take used xs = ap (λ n. take n xs) is in (
        record { kept = λ _. same; added = λ none. absurd (none (there k x lt at)) },
        ap (λ l. slice_get l k) same ∙ in_front k x lt at,
        omega arith,
      )
  use_step k after x at (inr (last, is)) =
      let inside : k < length xs = slice_get_within xs k x at in
      let here : slice_get xs used ≡ Some x = ap (slice_get xs) (sym last) ∙ at in
      let longer : take after xs ≡ take used xs ++ x ∷ [] =
      ap (λ n. take n xs) is ∙ front_more xs used x (omega arith) (sym (get_or_from_slice_get xs used x x here)) in (
        record {
          kept = λ has.
              let seen = from_front x has in
              let one : seen.0 ≡ used = one_place xs seen.0 used x apart seen.2 here in
              absurd (let less = seen.1 in omega arith);
          added = λ _. longer;
        },
        slice_get-get_or (take after xs) k x (omega (arith, length-take-le after xs (omega arith)))
            ∙ ap Some (get_or-take after xs k x (omega arith) ∙ get_or_from_slice_get xs k x x at),
        omega arith,
      )

pub distinct_take : {A : Type 0} → (xs : List A) (n : ℕ) → AreDistinct xs → AreDistinct (take n xs)
distinct_take xs n apart =
    elim (cases_lt n (length xs)) [
      | inl lt ↦ distinct_front xs n (omega (arith, lt)) apart
      | inr le ↦ subst AreDistinct (sym (take_all n xs le)) apart
    ]
