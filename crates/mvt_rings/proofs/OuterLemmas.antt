-- Exterior rings are held by an even number of rings, interior ones by an odd number, the least of which is their home.
use Rattle.std.proofs.Common.{arith, ◌≡◌, ℕ, ◌+◌, ◌%◌, ◌==◌, true, false, unsigned_abs, List, [], ◌∷◌, inl, inr, ◌⊎◌, refl, sym, ap, subst, ◌∙◌}
use Rattle.std.specs.Prelude.{slice_index}
use Rattle.std.specs.List.{AllByRecursion}
use Rattle.std.proofs.lemmas.Bool.{both_ways, cases_Bool, cases_eq, eq-eqb, eqb-true}
use Rattle.mvt_geometry.specs.Area.{area2}
use Rattle.mvt_rings.specs.declared.rings.Ring.{Ring}
use Rattle.mvt_rings.specs.declared.rings.Kept.{Kept}
use Rattle.mvt_rings.specs.declared.holding.Holders.{Holders}
use Rattle.mvt_rings.specs.Signs.{is_positive, is_negative}
use Rattle.mvt_rings.specs.Turning.{as_interior}
use Rattle.mvt_rings.specs.Homes.{exterior, home_of, interior}
use Rattle.mvt_rings.specs.EvenOdd.{holders_at, least_at}
use Rattle.mvt_rings.proofs.JoinedLemmas.{is_home}
use Rattle.mvt_rings.proofs.TurnedSignLemmas.{exterior_not_negative, exterior_positive, interior_not_positive, negative_solid, positive_solid}
use Rattle.mvt_rings.proofs.FixedLemmas.{AreHomes, AreNumbered, IsFixed, IsTree, even_is, home_flat, home_solid, homes_more, if_even, if_odd, odd_is, odd_some, own_fixed, tails}

-- the home before the first ring is none, or its own home
IsBefore : List ℕ → ℕ → ℕ → Type 0
IsBefore homes m before = IsFixed homes before ⊎ ((m ≡ 0) × (before ≡ 0))

fixed_before : (homes : List ℕ) (m before : ℕ) → IsBefore homes m before → slice_index homes m ≡ before → IsFixed homes before
unfolding IsBefore
fixed_before homes m before (inl fixed) at = fixed
fixed_before homes m before (inr (first, none)) at =
    ap (slice_index homes) (none ∙ sym first) ∙ at

-- each ring's home is its own home
fixed_one : (h : Holders) (homes : List ℕ) (S : ℕ → Type 0) → IsTree h homes S → (m before : ℕ) (r : Ring) → r.index ≡ m
    → slice_index homes m ≡ home_of h before r → ((r.size ≡ 0 → ⊥) → S r.index) → IsBefore homes m before
    → IsFixed homes (home_of h before r)
fixed_one h homes S is m before r numbered at solid old = by_size (cases_eq r.size 0)
  where
    by_size : (r.size ≡ 0) ⊎ (r.size ≡ 0 → ⊥) → IsFixed homes (home_of h before r)
    by_size (inl flat) =
        let same = home_flat h before r flat in
        subst (IsFixed homes) (sym same) (fixed_before homes m before old (at ∙ same))
    by_size (inr some) = subst (IsFixed homes) (sym (home_solid h before r some)) (own_fixed h homes S is r.index (solid some))

new_before : (homes : List ℕ) (m x : ℕ) → IsFixed homes x → IsBefore homes m x
unfolding IsBefore
new_before homes m x fixed = inl fixed

fixed_from : (h : Holders) (homes : List ℕ) (S : ℕ → Type 0) → IsTree h homes S → (m before : ℕ) (rings : List Ring)
    → AreNumbered m rings → AreHomes homes m (tails h before rings) → AllByRecursion (λ r. (r.size ≡ 0 → ⊥) → S r.index) rings
    → IsBefore homes m before → AllByRecursion (λ r. IsFixed homes (slice_index homes r.index)) rings
fixed_from h homes S is m before [] are at solid old = tt
fixed_from h homes S is m before (r ∷ rings) are at solid old =
    let home = home_of h before r in
    let first : m ≡ m + 0 = omega arith in
    let found : slice_index homes m ≡ home = ap (slice_index homes) first ∙ at 0 in
    let fixed = fixed_one h homes S is m before r are.0 found solid.0 old in (
      subst (IsFixed homes) (sym (ap (slice_index homes) are.0 ∙ found)) fixed,
      fixed_from h homes S is (m + 1) home rings are.1 (homes_more homes m home (tails h home rings) at) solid.1
          (new_before homes (m + 1) home fixed),
    )

pub fixed_homes : (h : Holders) (homes : List ℕ) (S : ℕ → Type 0) → IsTree h homes S → (rings : List Ring) → AreNumbered 0 rings
    → AreHomes homes 0 (tails h 0 rings) → AllByRecursion (λ r. (r.size ≡ 0 → ⊥) → S r.index) rings
    → AllByRecursion (λ r. IsFixed homes (slice_index homes r.index)) rings
unfolding IsBefore
fixed_homes h homes S is rings are at solid = fixed_from h homes S is 0 0 rings are at solid (inr (refl, refl))

-- what is known of each ring
pub record IsSized (S : ℕ → Type 0) (r : Ring) : Type 0 where
  pub size : r.size ≡ unsigned_abs (area2 r.points)
  pub there : (r.size ≡ 0 → ⊥) → S r.index
  pub back : S r.index → r.size ≡ 0 → ⊥

-- a ring that may be the first of a polygon
pub record IsOuter (h : Holders) (k : Kept) : Type 0 where
  pub not_negative : is_negative k.points ≡ false
  pub even : is_positive k.points ≡ true → holders_at h k % 2 ≡ 0

-- one that may stand behind it
pub record IsInner (h : Holders) (outer k : Kept) : Type 0 where
  pub not_positive : is_positive k.points ≡ false
  pub odd : is_negative k.points ≡ true → holders_at h k % 2 ≡ 1
  pub home : is_negative k.points ≡ true → outer.index ≡ least_at h k
  pub under : is_negative k.points ≡ true → is_positive outer.points ≡ true

self_less : (m n : ℕ) → m + 1 ≡ n → m ≡ n → ⊥
self_less m n less same = omega arith

outer_even : (h : Holders) (homes : List ℕ) (S : ℕ → Type 0) → IsTree h homes S → (i : ℕ) → S i → slice_index homes i ≡ i
    → slice_index h.counts i % 2 ≡ 0
outer_even h homes S is i solid home = by_parity (cases_Bool (slice_index h.counts i % 2 == 0))
  where
    by_parity : (slice_index h.counts i % 2 == 0) ≡ true ⊎ (slice_index h.counts i % 2 == 0) ≡ false
        → slice_index h.counts i % 2 ≡ 0
    by_parity (inl even) = even_is (slice_index h.counts i) even
    by_parity (inr odd) =
        let own = sym (is.own i solid) ∙ home in
        let least : slice_index h.leasts i ≡ i =
        sym (if_odd (slice_index h.counts i % 2 == 0) i (slice_index h.leasts i) odd) ∙ own in
        absurd (self_less _ _ (is.less i (odd_some (slice_index h.counts i) odd)) (ap (slice_index h.counts) least))

pub outer : (h : Holders) (homes : List ℕ) (S : ℕ → Type 0) → IsTree h homes S → (r : Ring) → IsSized S r → is_home homes r ≡ true
    → IsOuter h (exterior r)
outer h homes S is r sized home = record {
  not_negative = exterior_not_negative r.points;
  even = λ positive.
      outer_even h homes S is r.index (sized.there (λ none. positive_solid r.points positive (sym sized.size ∙ none)))
      (eqb-true (slice_index homes r.index) r.index home);
}

-- a ring with area that is not its own home
pub record IsUnder (h : Holders) (homes : List ℕ) (i : ℕ) : Type 0 where
  pub odd : (slice_index h.counts i % 2 == 0) ≡ false
  pub home : slice_index homes i ≡ slice_index h.leasts i

inner_odd : (h : Holders) (homes : List ℕ) (S : ℕ → Type 0) → IsTree h homes S → (i : ℕ) → S i
    → (slice_index homes i == i) ≡ false → IsUnder h homes i
inner_odd h homes S is i solid away = by_parity (cases_Bool (slice_index h.counts i % 2 == 0))
  where
    by_parity : (slice_index h.counts i % 2 == 0) ≡ true ⊎ (slice_index h.counts i % 2 == 0) ≡ false → IsUnder h homes i
    by_parity (inl even) =
        let own = is.own i solid ∙ if_even (slice_index h.counts i % 2 == 0) i (slice_index h.leasts i) even in
        absurd (both_ways (slice_index homes i == i) away (eq-eqb (slice_index homes i) i own))
    by_parity (inr odd) = record {
      odd = odd;
      home = is.own i solid ∙ if_odd (slice_index h.counts i % 2 == 0) i (slice_index h.leasts i) odd;
    }

pub inner : (h : Holders) (homes : List ℕ) (S : ℕ → Type 0) → IsTree h homes S → (r q : Ring) → IsSized S r → IsSized S q
    → is_home homes q ≡ false → r.index ≡ slice_index homes q.index → IsInner h (exterior r) (interior q)
inner h homes S is r q outer_sized sized away joins =
    let under = λ (negative : is_negative (as_interior q.points) ≡ true).
    inner_odd h homes S is q.index (sized.there (λ none. negative_solid q.points negative (sym sized.size ∙ none))) away in
    record {
      not_positive = interior_not_positive q.points;
      odd = λ negative. odd_is (slice_index h.counts q.index) (under negative).odd;
      home = λ negative. joins ∙ (under negative).home;
      under = λ negative.
          let least = is.solid q.index (odd_some (slice_index h.counts q.index) (under negative).odd) in
          let solid = outer_sized.back (subst S (sym (joins ∙ (under negative).home)) least) in
          exterior_positive r.points (λ none. solid (outer_sized.size ∙ none));
    }
