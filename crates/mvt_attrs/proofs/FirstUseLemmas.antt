-- First uses of a list, under a test that decides equality.
use Rattle.std.proofs.Common.{◌≡◌, ◌≢◌, ℕ, zero, suc, ◌<◌, Bool, true, false, cond, not, ◌||◌, List, [], ◌∷◌, ◌++◌, length, get_or, filter, Some, Contains, Decides, slice_get, refl, sym, ap, subst, ◌∙◌, inl, inr, arith, length-append, append_assoc, append-nil}
use Rattle.std.specs.List.{list_any}
use Rattle.std.proofs.lemmas.Bool.{false≢true, both_ways, or_from, or_parts, or_cases, false_from_ne_true}
use Rattle.std.proofs.lemmas.List.{get_or_append_left, get_or_at}
use Rattle.std.proofs.lemmas.List.Elements.{filter-append}
use Rattle.std.proofs.lemmas.List.Quantifiers.{all_pairs_push}
use Rattle.std.proofs.lemmas.Option.{slice_get_within, get_or_from_slice_get}
use Rattle.mvt_attrs.specs.FirstUse.{first_use, AreDistinct}
use Rattle.mvt_attrs.specs.TagPlaces.{place_in}
use Rattle.mvt_attrs.proofs.PoolLemmas.{any_from_Contains}

module _ {A : Type 0} (same : A → A → Bool) (decides : (x y : A) → Decides (same x y) (x ≡ y)) where
  -- whether a list has x
  abbrev pub has : A → List A → Bool
  has x ys = list_any (λ y. same y x) ys

  -- the first uses after one more entry
  abbrev pub put : List A → A → List A
  put pool x = cond (has x pool) pool (pool ++ x ∷ [])

  -- ---- what a list has

  has-filter : (x y : A) → same x y ≡ false → (zs : List A) → has y (filter (λ z. not (same x z)) zs) ≡ has y zs
  has-filter x y other [] = refl
  has-filter x y other (z ∷ zs) = by (same x z) refl (has-filter x y other zs)
    where
      by : (b : Bool) → same x z ≡ b → has y (filter (λ z. not (same x z)) zs) ≡ has y zs
          → has y (cond (not b) (z ∷ filter (λ z. not (same x z)) zs) (filter (λ z. not (same x z)) zs)) ≡ (same z y || has y zs)
      by true e rest =
          let gone : same z y ≡ false = ap (λ v. same v y) (sym ((decides x z).0 e)) ∙ other in
          rest ∙ sym (ap (λ b. b || has y zs) gone)
      by false e rest = ap (λ b. same z y || b) rest

  -- first uses have what the list has
  pub has-first_use : (y : A) (xs : List A) → has y (first_use same xs) ≡ has y xs
  has-first_use y [] = refl
  has-first_use y (x ∷ xs) = by (same x y) refl (has-first_use y xs)
    where
      by : (b : Bool) → same x y ≡ b → has y (first_use same xs) ≡ has y xs
          → (b || has y (filter (λ z. not (same x z)) (first_use same xs))) ≡ (b || has y xs)
      by true e rest = refl
      by false e rest = has-filter x y e (first_use same xs) ∙ rest

  pub has_from_Contains : (x : A) (ys : List A) → Contains ys x → has x ys ≡ true
  has_from_Contains x ys h =
      any_from_Contains x (λ y. same y x) (λ y. ((λ e. sym ((decides y x).0 e)), (λ e. (decides y x).1 (sym e)))) ys h

  pub Contains_from_has : (x : A) (ys : List A) → has x ys ≡ true → Contains ys x
  Contains_from_has x [] e = absurd (false≢true e)
  Contains_from_has x (y ∷ ys) e =
      elim (or_cases (same y x) (has x ys) e) [
        | inl here ↦ (0, omega arith, (decides y x).0 here)
        | inr there ↦ (let h = Contains_from_has x ys there in (suc h.0, omega (arith, h.1), h.2))
      ]

  apart_from_has : (x : A) (ys : List A) → has x ys ≡ false → (k : ℕ) (d : A) → k < length ys → get_or ys k d ≢ x
  apart_from_has x [] e k d within same_one = omega arith
  apart_from_has x (y ∷ ys) e zero d within same_one = both_ways (same y x) (or_parts (same y x) (has x ys) e).0 ((decides y x).1 same_one)
  apart_from_has x (y ∷ ys) e (suc k) d within same_one =
      apart_from_has x ys (or_parts (same y x) (has x ys) e).1 k d (omega arith) same_one

  has_not_from_apart : (x : A) (ys : List A) → ((k : ℕ) (d : A) → k < length ys → get_or ys k d ≢ x) → has x ys ≡ false
  has_not_from_apart x [] apart = refl
  has_not_from_apart x (y ∷ ys) apart =
      or_from (same y x) (has x ys) (false_from_ne_true (same y x) (λ e. apart 0 y (omega arith) ((decides y x).0 e)))
      (has_not_from_apart x ys (λ k d within. apart (suc k) d (omega arith)))

  -- ---- one more entry

  pub first_use-push : (xs : List A) (y : A) → first_use same (xs ++ y ∷ []) ≡ put (first_use same xs) y
  first_use-push xs y = pushed xs ∙ ap (λ b. cond b (first_use same xs) (first_use same xs ++ y ∷ [])) (sym (has-first_use y xs))
    where
      keep : (x : A) → List A → List A
      keep x zs = filter (λ z. not (same x z)) zs

      last : (x : A) (zs : List A) (b c : Bool) → same x y ≡ b
          → x ∷ filter (λ z. not (same x z)) (cond c zs (zs ++ y ∷ []))
          ≡ cond (b || c) (x ∷ filter (λ z. not (same x z)) zs) (x ∷ filter (λ z. not (same x z)) zs ++ y ∷ [])
      last x zs true true e = refl
      last x zs false true e = refl
      last x zs true false e =
          ap (λ w. x ∷ w)
          (filter-append (λ z. not (same x z)) zs (y ∷ [])
          ∙ ap (λ b. filter (λ z. not (same x z)) zs ++ cond (not b) (y ∷ []) []) e ∙ append-nil _)
      last x zs false false e =
          ap (λ w. x ∷ w)
          (filter-append (λ z. not (same x z)) zs (y ∷ [])
          ∙ ap (λ b. filter (λ z. not (same x z)) zs ++ cond (not b) (y ∷ []) []) e)

      pushed : (xs : List A) → first_use same (xs ++ y ∷ []) ≡ cond (has y xs) (first_use same xs) (first_use same xs ++ y ∷ [])
      pushed [] = refl
      pushed (x ∷ xs) = ap (λ w. x ∷ filter (λ z. not (same x z)) w) (pushed xs) ∙ last x (first_use same xs) (same x y) (has y xs) refl

  pub put_cases : (P : List A → Type 0) (pool : List A) (x : A) → (has x pool ≡ true → P pool)
      → (has x pool ≡ false → P (pool ++ x ∷ [])) → P (put pool x)
  put_cases P pool x old new = by (has x pool) refl
    where
      by : (b : Bool) → has x pool ≡ b → P (cond b pool (pool ++ x ∷ []))
      by true e = old e
      by false e = new e

  -- what placing an entry leaves
  pub put_is : (pool after : List A) (x : A) → (Contains pool x → after ≡ pool)
      → ((Contains pool x → ⊥) → after ≡ pool ++ x ∷ []) → after ≡ put pool x
  put_is pool after x kept added =
      put_cases (λ p. after ≡ p) pool x (λ e. kept (Contains_from_has x pool e))
      (λ e. added (λ h. both_ways (has x pool) e (has_from_Contains x pool h)))

  -- ---- first uses have no repeats, and a list without repeats is its own

  distinct_from : (front back : List A) → AreDistinct (first_use same front) → AreDistinct (first_use same (front ++ back))
  distinct_from front [] h = subst (λ xs. AreDistinct (first_use same xs)) (sym (append-nil front)) h
  distinct_from front (y ∷ ys) h =
      subst (λ xs. AreDistinct (first_use same xs)) (append_assoc front (y ∷ []) ys)
      (distinct_from (front ++ y ∷ []) ys (subst AreDistinct (sym (first_use-push front y))
      (put_cases AreDistinct (first_use same front) y (λ e. h)
      (λ e. all_pairs_push (λ a b. a ≢ b) (first_use same front) y h (apart_from_has y (first_use same front) e)))))

  pub first_use-distinct : (xs : List A) → AreDistinct (first_use same xs)
  first_use-distinct xs = distinct_from [] xs (λ i j d before within e. omega arith)

  new_after : (front : List A) (y : A) (back : List A) → AreDistinct (front ++ y ∷ back) → has y front ≡ false
  new_after front y back distinct =
      has_not_from_apart y front (λ k d within e.
      distinct k (length front) d within (omega (arith, length-append front (y ∷ back)))
      (get_or_append_left front (y ∷ back) d k within ∙ e ∙ sym (get_or_at front y back d (length front) refl)))

  own_from : (front back : List A) → first_use same front ≡ front → AreDistinct (front ++ back)
      → first_use same (front ++ back) ≡ front ++ back
  own_from front [] e distinct = ap (first_use same) (append-nil front) ∙ e ∙ sym (append-nil front)
  own_from front (y ∷ ys) e distinct =
      let joined = append_assoc front (y ∷ []) ys in
      let new = new_after front y ys distinct in
      sym (ap (first_use same) joined)
      ∙ own_from (front ++ y ∷ []) ys
      (first_use-push front y ∙ ap (λ p. put p y) e ∙ ap (λ b. cond b front (front ++ y ∷ [])) new)
      (subst AreDistinct (sym joined) distinct)
      ∙ joined

  pub first_use-own : (xs : List A) → AreDistinct xs → first_use same xs ≡ xs
  first_use-own xs distinct = own_from [] xs refl distinct

  -- ---- longer lists

  same_after : (us vs ys : List A) → first_use same us ≡ first_use same vs → first_use same (us ++ ys) ≡ first_use same (vs ++ ys)
  same_after us vs [] e = ap (first_use same) (append-nil us) ∙ e ∙ sym (ap (first_use same) (append-nil vs))
  same_after us vs (y ∷ ys) e =
      sym (ap (first_use same) (append_assoc us (y ∷ []) ys))
      ∙ same_after (us ++ y ∷ []) (vs ++ y ∷ []) ys (first_use-push us y ∙ ap (λ p. put p y) e ∙ sym (first_use-push vs y))
      ∙ ap (first_use same) (append_assoc vs (y ∷ []) ys)

  pub first_use-again : (xs ys : List A) → first_use same (first_use same xs ++ ys) ≡ first_use same (xs ++ ys)
  first_use-again xs ys = same_after (first_use same xs) xs ys (first_use-own (first_use same xs) (first_use-distinct xs))

  pub first_use-front : (xs ys : List A) → (more : List A) × (first_use same (xs ++ ys) ≡ first_use same xs ++ more)
  first_use-front xs [] = ([], ap (first_use same) (append-nil xs) ∙ sym (append-nil (first_use same xs)))
  first_use-front xs (y ∷ ys) =
      let rest = first_use-front (xs ++ y ∷ []) ys in
      let step : (more : List A) × (put (first_use same xs) y ≡ first_use same xs ++ more) =
      put_cases (λ p. (more : List A) × (p ≡ first_use same xs ++ more)) (first_use same xs) y
      (λ e. ([], sym (append-nil (first_use same xs)))) (λ e. (y ∷ [], refl)) in (
        step.0 ++ rest.0,
        sym (ap (first_use same) (append_assoc xs (y ∷ []) ys)) ∙ rest.1 ∙ ap (λ p. p ++ rest.0) (first_use-push xs y ∙ step.1)
            ∙ append_assoc (first_use same xs) step.0 rest.0,
      )

  -- ---- places

  -- an entry that is there stands at its place
  pub stands_at_place : (x : A) (ys : List A) → has x ys ≡ true → slice_get ys (place_in same ys x) ≡ Some x
  stands_at_place x [] e = absurd (false≢true e)
  stands_at_place x (y ∷ ys) e = by (same y x) refl (stands_at_place x ys)
    where
      by : (b : Bool) → same y x ≡ b → (has x ys ≡ true → slice_get ys (place_in same ys x) ≡ Some x)
          → slice_get (y ∷ ys) (cond b 0 (suc (place_in same ys x))) ≡ Some x
      by true here rest = ap Some ((decides y x).0 here)
      by false other rest = rest (sym (ap (λ b. b || has x ys) other) ∙ e)

  -- where no entry stands twice, an entry has just one place, also in a longer list
  pub place_in-distinct : (xs more : List A) (i : ℕ) (x : A) → AreDistinct xs → slice_get xs i ≡ Some x → place_in same (xs ++ more) x ≡ i
  place_in-distinct [] more i x distinct at = cc
  place_in-distinct (y ∷ ys) more zero x distinct at =
      let one : y ≡ x = cc in
      ap (λ b. cond b 0 (suc (place_in same (ys ++ more) x))) ((decides y x).1 one)
  place_in-distinct (y ∷ ys) more (suc i) x distinct at =
      let within = slice_get_within ys i x at in
      let other : same y x ≡ false =
      false_from_ne_true (same y x)
      (λ e. distinct 0 (suc i) y (omega arith) (omega arith) ((decides y x).0 e ∙ sym (get_or_from_slice_get ys i x y at))) in
      ap (λ b. cond b 0 (suc (place_in same (ys ++ more) x))) other
      ∙ ap suc (place_in-distinct ys more i x (λ j k d before small. distinct (suc j) (suc k) d (omega arith) (omega arith)) at)
