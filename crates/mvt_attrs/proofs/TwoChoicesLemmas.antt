-- Entries in slots and in order, when another is added.
use Rattle.std.proofs.Common.{◌≡◌, ◌≢◌, ℕ, zero, suc, ◌+◌, Bool, ◌⊎◌, List, [], ◌∷◌, ◌++◌, length, Option, Some, Contains, Decides, slice_get, slice_index, slice_set, cond, inl, inr, refl, sym, ap, subst, ◌∙◌, arith}
use Rattle.std.proofs.lemmas.Bool.{cond_both, both_ways}
use Rattle.std.proofs.lemmas.List.{get_or-set_same, get_or-set_other}
use Rattle.mvt_attrs.specs.Inner.Choosing.{IsOfOr, IsFreeSlot}
use Rattle.mvt_attrs.proofs.PoolLemmas.{last_there, slice_get-front}
use Rattle.mvt_attrs.proofs.PlacingLemmas.{contains_at}

-- what stands at an index of a longer list
at_index : {A : Type 0} → (xs : List A) (y : A) (i : ℕ) (x : A) → slice_get (xs ++ y ∷ []) i ≡ Some x
    → (slice_get xs i ≡ Some x) ⊎ ((length xs ≡ i) × (y ≡ x))
at_index [] y zero x e = inr (omega arith, cc)
at_index [] y (suc i) x e = cc
at_index (w ∷ xs) y zero x e = inl e
at_index (w ∷ xs) y (suc i) x e =
    elim (at_index xs y i x e) [
      | inl before ↦ inl before
      | inr last ↦ inr (omega (arith, last.0), last.1)
    ]

-- what holds of each entry and of the new one at its place
known_more : {A : Type 0} → (entries : List A) (new : A) (Known : ℕ → A → Type 0)
    → ((i : ℕ) (x : A) → slice_get entries i ≡ Some x → Known i x) → Known (length entries) new
    → (i : ℕ) (x : A) → slice_get (entries ++ new ∷ []) i ≡ Some x → Known i x
known_more entries new Known before now i x at =
    elim (at_index entries new i x at) [
      | inl there ↦ before i x there
      | inr last ↦ subst (λ n. Known n x) last.0 (subst (Known (length entries)) last.1 now)
    ]

-- a slot that is taken stays so
still_of : {P Q : Type 0} → (mark after i : ℕ) → (mark ≢ 0 → after ≡ mark) → (P → Q) → IsOfOr mark i P → IsOfOr after i Q
still_of mark after i kept more of =
    elim of [
      | inl here ↦ inl (kept (λ e. omega (arith, e, here)) ∙ here)
      | inr there ↦ inr (λ e. there.0 (sym (kept there.0) ∙ e), more there.1)
    ]

module _ {A : Type 0} (entries : List A) (new : A) (first second : A → ℕ) (slots : List ℕ) (old : A → Option ℕ) where
  abbrev pub Stands : List ℕ → (A → Option ℕ) → ℕ → A → Type 0
  Stands marks order i x = IsOfOr (slice_index marks (first x)) i (IsOfOr (slice_index marks (second x)) i (order x ≡ Some i))

  module _ (known : (i : ℕ) (x : A) → slice_get entries i ≡ Some x → Stands slots old i x) where
    -- the new entry takes a free slot
    module _ (slot : ℕ) (free : IsFreeSlot slots (first new) (second new) (Some slot)) where
      abbrev marked : List ℕ
      marked = slice_set slots slot (length entries + 1)

      mark_kept : (h : ℕ) → slice_index slots h ≢ 0 → slice_index marked h ≡ slice_index slots h
      mark_kept h taken = get_or-set_other slots slot h (length entries + 1) 0 (λ e. taken (ap (slice_index slots) e ∙ free.1))

      mark_set : (h : ℕ) → slot ≡ h → slice_index marked h ≡ length entries + 1
      mark_set h e = ap (slice_index marked) (sym e) ∙ get_or-set_same slots slot (length entries + 1) 0 free.0

      stands_now : Stands marked old (length entries) new
      stands_now =
          elim free.2 [
            | inl at_first ↦ inl (mark_set (first new) at_first)
            | inr at_second ↦ inr (λ e. at_second.0 (sym (mark_kept (first new) at_second.0) ∙ e), inl (mark_set (second new) at_second.1))
          ]

      pub known_in_slot : (i : ℕ) (x : A) → slice_get (entries ++ new ∷ []) i ≡ Some x → Stands marked old i x
      known_in_slot =
          known_more entries new (Stands marked old)
          (λ i x at. still_of (slice_index slots (first x)) (slice_index marked (first x)) i (mark_kept (first x))
          (still_of (slice_index slots (second x)) (slice_index marked (second x)) i (mark_kept (second x)) (λ e. e)) (known i x at))
          stands_now

  -- the new entry goes into the order
  module _ (absent : Contains entries new → ⊥) (here : A → Bool) (decides : (x : A) → Decides (here x) (new ≡ x)) (after : A → Option ℕ)
      (updated : (x : A) → after x ≡ cond (here x) (Some (length entries)) (old x)) where
    at_new : after new ≡ Some (length entries)
    at_new =
        updated new ∙ cond_both (here new) (Some (length entries)) (old new) (λ o. o ≡ Some (length entries)) (λ e. refl)
        (λ e. absurd (both_ways (here new) e ((decides new).1 refl)))

    at_other : (x : A) → (new ≡ x → ⊥) → after x ≡ old x
    at_other x apart =
        updated x ∙ cond_both (here x) (Some (length entries)) (old x) (λ o. o ≡ old x) (λ e. absurd (apart ((decides x).0 e))) (λ e. refl)

    pub known_in_order : ((i : ℕ) (x : A) → slice_get entries i ≡ Some x → Stands slots old i x)
        → slice_index slots (first new) ≢ 0 → slice_index slots (second new) ≢ 0
        → (i : ℕ) (x : A) → slice_get (entries ++ new ∷ []) i ≡ Some x → Stands slots after i x
    known_in_order known first_taken second_taken =
        known_more entries new (Stands slots after)
        (λ i x at. still_of (slice_index slots (first x)) (slice_index slots (first x)) i (λ e. refl)
        (still_of (slice_index slots (second x)) (slice_index slots (second x)) i (λ e. refl)
        (λ there. at_other x (λ e. absent (subst (Contains entries) (sym e) (contains_at entries i x at))) ∙ there)) (known i x at))
        (inr (first_taken, inr (second_taken, at_new)))

    pub sound_in_order : ((i : ℕ) (x : A) → old x ≡ Some i → slice_get entries i ≡ Some x) → (i : ℕ) (x : A)
        → after x ≡ Some i → slice_get (entries ++ new ∷ []) i ≡ Some x
    sound_in_order sound i x e =
        cond_both (here x) (Some (length entries)) (old x) (λ o. o ≡ Some i → slice_get (entries ++ new ∷ []) i ≡ Some x)
        (λ same at. subst (λ o. o ≡ Some x) (ap (slice_get (entries ++ new ∷ [])) (some_once at))
        (last_there entries new ∙ ap Some ((decides x).0 same)))
        (λ other at. slice_get-front entries (new ∷ []) i x (sound i x at)) (sym (updated x) ∙ e)
      where
        some_once : {m n : ℕ} → Some m ≡ Some n → m ≡ n
        some_once e = cc
