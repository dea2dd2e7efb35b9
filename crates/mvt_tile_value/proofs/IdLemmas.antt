-- What stands in a list of ids that rise, and what one more does to it.
use Rattle.std.proofs.Common.{◌≡◌, ◌≢◌, ℕ, zero, suc, ◌-◌, ◌<◌, ◌≤◌, eqb, [], ◌∷◌, ◌++◌, length, get_or, if◌then◌else◌, Option, Some, None, Result, Ok, Err, IfOk, IfErr, false, inl, inr, refl, sym, subst, ap, ◌∙◌, arith, length-append}
use mathlib.Core.Bool.{true≢false}
use Rattle.std.specs.List.Sorted.{IsSearchInRange, IsBinarySearchResult, IsNonDecreasingBy}
use Rattle.std.specs.Option.{is_none, option_or}
use Rattle.std.specs.Ordering.{nat_cmp, ordering_index}
use Rattle.std.proofs.lemmas.Bool.Decides.{nat_tests}
use Rattle.std.proofs.lemmas.Bool.{cases_eq}
use Rattle.std.proofs.lemmas.Cmp.{ranked}
use Rattle.std.proofs.lemmas.List.{get_or_append_left, get_or-append_right}
use Rattle.std.proofs.lemmas.List.Sorted.{IsNonDecreasingBy-from_default}
use Rattle.mvt_tile_value.specs.declared.first_ids.FirstIds.{FirstIds}
use Rattle.mvt_tile_value.specs.FirstIds.{Entries, found_in, id_at, AreRising, IsAboveAll, AreFirst}

-- no entry before place i has the id
abbrev pub HasNoneBefore : Entries → ℕ → ℕ → Type 0
HasNoneBefore l id i = (j : ℕ) → j < i → id_at l j ≢ id

none_in_tail : (x : ℕ × ℕ) (l : Entries) (id i : ℕ) → HasNoneBefore (x ∷ l) id (suc i) → HasNoneBefore l id i
none_in_tail x l id i none j lt = none (suc j) (omega arith)

found_absent : (l : Entries) (id : ℕ) → HasNoneBefore l id (length l) → found_in l id ≡ None
found_absent [] id none = refl
found_absent (x ∷ l) id none = grind (arith, nat_tests, none 0 (omega arith), found_absent l id (none_in_tail x l id _ none))

found_present : (l : Entries) (id i : ℕ) → i < length l → id_at l i ≡ id → HasNoneBefore l id i
    → found_in l id ≡ Some (get_or l i (0, 0)).1
found_present [] id i within here none = absurd (omega (arith, within))
found_present (x ∷ l) id zero within here none = grind (arith, nat_tests, here)
found_present (x ∷ l) id (suc i) within here none =
    grind (arith, nat_tests, none 0 (omega arith), found_present l id i (omega (arith, within)) here (none_in_tail x l id i none))

found_pushed : (l : Entries) (id feature q : ℕ)
    → found_in (l ++ (id, feature) ∷ []) q ≡ option_or (found_in l q) (if eqb q id then Some feature else None)
found_pushed [] id feature q = refl
found_pushed (x ∷ l) id feature q = grind (arith, nat_tests, found_pushed l id feature q)

-- an id above all of a list isn't in it
pub found_above : (l : Entries) (id : ℕ) → IsAboveAll id l → found_in l id ≡ None
found_above l id above = found_absent l id (λ j lt same. (let less = above j lt in omega (arith, less, same)))

module _ (l : Entries) (rising : AreRising l) (id : ℕ) where
  comparisons_rise : IsNonDecreasingBy (λ entry. ordering_index (nat_cmp entry.0 id)) l
  comparisons_rise = IsNonDecreasingBy-from_default (λ entry. ordering_index (nat_cmp entry.0 id)) l (0, 0) (λ i j le within.
      let ids_rise : id_at l i ≤ id_at l j = grind (arith, rising i j, λ (same : i ≡ j). ap (id_at l) same) in
      grind (arith, nat_tests))

  -- a binary search finds the entry, or says that there is none
  pub searched : (r : Result ℕ ℕ) → IsSearchInRange r (length l) → IsBinarySearchResult (λ entry. nat_cmp entry.0 id) l r
      → record { at : IfOk r (λ i. found_in l id ≡ Some (get_or l i (0, 0)).1); none : IfErr r (λ i. found_in l id ≡ None) }
  searched (Ok i) within equal =
      let here : id_at l i ≡ id = ranked _ id _ (sym (equal (0, 0))) in
      record {
        at = found_present l id i within here (λ j lt same. (let less = rising j i lt within in omega (arith, less, same, here)));
        none = tt;
      }
  searched (Err i) within parted = record {
    at = tt;
    none = found_absent l id (λ j lt same.
        grind (
          arith,
          λ (less : j < i). ranked _ id _ (sym ((parted comparisons_rise).0 j (0, 0) (omega arith) less)),
          λ (more : i ≤ j). ranked _ id _ (sym ((parted comparisons_rise).1 j (0, 0) more lt)),
        ));
  }

module _ (l : Entries) (id feature : ℕ) (above : IsAboveAll id l) where
  pub rising_pushed : AreRising l → AreRising (l ++ (id, feature) ∷ [])
  rising_pushed rising i j lt within =
      let size = length-append l ((id, feature) ∷ []) in
      let left : (k : ℕ) → k < length l → id_at (l ++ (id, feature) ∷ []) k ≡ id_at l k =
      λ k h. ap (λ (x : ℕ × ℕ). x.0) (get_or_append_left l ((id, feature) ∷ []) (0, 0) k h) in
      let last : (k : ℕ) → k ≡ length l → id_at (l ++ (id, feature) ∷ []) k ≡ id =
      λ k h. ap (λ (x : ℕ × ℕ). x.0) (get_or-append_right l ((id, feature) ∷ []) (length l) k (0, 0) refl (omega (arith, h))
      ∙ ap (λ n. get_or ((id, feature) ∷ []) n (0, 0)) (let n : k - length l ≡ 0 = omega (arith, h) in n)) in
      grind (arith, left i, left j, last j, above i, rising i j, size)

  -- what is above the longer list is above this one
  pub above_front : (q : ℕ) → IsAboveAll q (l ++ (id, feature) ∷ []) → IsAboveAll q l
  above_front q all i h =
      let size = length-append l ((id, feature) ∷ []) in
      let less = all i (omega (arith, size, h)) in
      let same = ap (λ (x : ℕ × ℕ). x.0) (get_or_append_left l ((id, feature) ∷ []) (0, 0) i h) in
      grind (arith, less, same)

  pub first_pushed : (q : ℕ) (other first : Option ℕ) → option_or (found_in l q) other ≡ first → (q ≡ id → other ≡ None)
      → option_or (found_in (l ++ (id, feature) ∷ []) q) other ≡ option_or first (if eqb q id then Some feature else None)
  first_pushed q other first is none = grind (arith, nat_tests, found_pushed l id feature q, none)

kept : (first other : Option ℕ) → is_none first ≡ false → first ≡ option_or first other
kept None other held = absurd (true≢false held)
kept (Some n) other held = refl

option_or_none : (first : Option ℕ) → option_or first None ≡ first
option_or_none None = refl
option_or_none (Some n) = refl

-- an id that had a feature keeps it
pub first_kept : (id feature q : ℕ) (first : ℕ → Option ℕ) → is_none (first id) ≡ false
    → first q ≡ option_or (first q) (if eqb q id then Some feature else None)
first_kept id feature q first held = elim (cases_eq q id) [
  | inl same ↦ subst (λ k. first k ≡ option_or (first k) (if eqb k id then Some feature else None)) (sym same) (kept (first id) _ held)
  | inr other ↦ grind (arith, nat_tests, other, option_or_none (first q))
]

-- an id that had none gets this one
pub first_inserted : (l : Entries) (id feature q : ℕ) (old new first : Option ℕ) → new ≡ (if eqb q id then Some feature else old)
    → option_or (found_in l q) old ≡ first → (q ≡ id → first ≡ None)
    → option_or (found_in l q) new ≡ option_or first (if eqb q id then Some feature else None)
first_inserted l id feature q old new first is was none = grind (arith, nat_tests, is, was, none)

pub none_inserted : (q id feature : ℕ) (new old : Option ℕ) → new ≡ (if eqb q id then Some feature else old) → q ≢ id → old ≡ None
    → new ≡ None
none_inserted q id feature new old is other none = grind (arith, nat_tests, is, other, none)

pub same_first : (ids : FirstIds) (first other : ℕ → Option ℕ) → AreFirst ids first → ((q : ℕ) → first q ≡ other q) → AreFirst ids other
same_first ids first other are same = record { rising = are.rising; above = are.above; first_is = λ q. are.first_is q ∙ same q }
