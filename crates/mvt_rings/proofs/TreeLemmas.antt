-- The least ring that holds another has area, and one holder less.
use Rattle.std.proofs.Common.{arith, ◌≡◌, ℕ, zero, suc, ◌+◌, ◌-◌, ◌≤◌, ◌==◌, nat_le, nat_lt, ◌&&◌, ◌||◌, not, Bool, true, false, List, [], ◌∷◌, ◌++◌, Result, Ok, Err, Option, Some, None, refl, ap, subst, ◌∙◌}
use Rattle.std.specs.Prelude.{if◌then◌else◌, slice_index, ⊤}
use Rattle.std.specs.List.{AllByRecursion}
use Rattle.std.proofs.lemmas.Bool.{and_parts}
use Rattle.std.proofs.lemmas.Bool.Decides.{nat_tests}
use Rattle.mvt_rings.specs.declared.rings.Ring.{Ring}
use Rattle.mvt_rings.specs.declared.placing.Place.{Place}
use Rattle.mvt_rings.specs.declared.placing.Place.TheVariants.{Held, Apart, Unclear}
use Rattle.mvt_rings.specs.declared.holding.Crossing.{Crossing}
use Rattle.mvt_rings.specs.declared.holding.Holder.{Holder}
use Rattle.mvt_rings.specs.declared.holding.Holders.{Holders}
use Rattle.mvt_rings.specs.Boxes.{meets}
use Rattle.mvt_rings.specs.Rings.{is_larger, may_hold, place}
use Rattle.mvt_rings.specs.Holding.{held_after, holder_of, holders_after, is_odd_one, is_unclear, no_holder, odd_one_from, with_placed}
use Rattle.mvt_rings.proofs.HomeIndexLemmas.{after_one, longer}

odd_first : (b : Bool) (c : Crossing) (rest : Option Crossing) → (if b then Some c else rest) ≡ None
    → (b ≡ false) × (rest ≡ None)
odd_first true c rest is = absurd (cc)
odd_first false c rest is = (refl, is)

odd_none : (h : Holders) (n : ℕ) (counts : List ℕ) → odd_one_from h n counts ≡ None → (j : ℕ) → (slice_index counts j ≡ 0 → ⊥)
    → is_odd_one h (n + j) (slice_index counts j) ≡ false
odd_none h n [] none j some = absurd (some refl)
odd_none h n (c ∷ counts) none zero some =
    let here = odd_first (is_odd_one h n c) _ (odd_one_from h (n + 1) counts) none in
    let same : n + 0 ≡ n = omega arith in ap (λ m. is_odd_one h m c) same ∙ here.0
odd_none h n (c ∷ counts) none (suc j) some =
    let here = odd_first (is_odd_one h n c) _ (odd_one_from h (n + 1) counts) none in
    let same : n + suc j ≡ (n + 1) + j = omega arith in
    ap (λ m. is_odd_one h m (slice_index counts j)) same ∙ odd_none h (n + 1) counts here.1 j some

one_less : (c x : ℕ) → (not (c == 0) && not (x == (c - 1))) ≡ false → (c ≡ 0 → ⊥) → x + 1 ≡ c
one_less c x is some = grind (arith, nat_tests)

pub tree : (h : Holders) → odd_one_from h 0 h.counts ≡ None → (i : ℕ) → (slice_index h.counts i ≡ 0 → ⊥)
    → slice_index h.counts (slice_index h.leasts i) + 1 ≡ slice_index h.counts i
unfolding is_odd_one
tree h none i some =
    let same : i ≡ 0 + i = omega arith in
    one_less (slice_index h.counts i) (slice_index h.counts (slice_index h.leasts i))
    (ap (λ m. is_odd_one h m (slice_index h.counts i)) same ∙ odd_none h 0 h.counts none i some) some

not_smaller : (a b i j : ℕ) → (nat_lt a b || ((b == a) && nat_lt i j)) ≡ true → a ≤ b
not_smaller a b i j is = grind (arith, nat_tests)

larger_solid : (o r : Ring) → may_hold o r ≡ true → (r.size ≡ 0 → ⊥) → o.size ≡ 0 → ⊥
unfolding may_hold
larger_solid o r holds some none =
    let larger = and_parts (is_larger o r) (meets o.bounds r.bounds) holds in
    let more = not_smaller r.size o.size o.index r.index larger.0 in some (omega arith)

-- what is true of the index of the least holder, where there is one
abbrev IsFound : (ℕ → Type 0) → Holder → Type 0
IsFound S h = (h.count ≡ 0 → ⊥) → S h.least

found_longer : (S : ℕ → Type 0) (b : Bool) (h : Holder) (o : Ring) → (b ≡ false → h.count ≡ 0 → ⊥) → IsFound S h → S o.index
    → IsFound S (longer b h o)
found_longer S true h o more old new some = new
found_longer S false h o more old new some = old (more refl)

not_first : (n : ℕ) (b : Bool) → ((n == 0) || b) ≡ false → n ≡ 0 → ⊥
not_first n b is none = grind (arith, nat_tests)

found_placed : (S : ℕ → Type 0) (h : Holder) (o : Ring) (p : Place) → IsFound S h → S o.index → IsFound S (with_placed h o p)
found_placed S h o Held old new =
    found_longer S ((h.count == 0) || nat_le o.size h.size) h o (not_first h.count (nat_le o.size h.size)) old new
found_placed S h o Apart old new = old
found_placed S h o Unclear old new = old

either_way : (P : Holder → Type 0) (b c : Bool) (found : Holder) (x : Crossing) (one none : Result Holder Crossing)
    → (b ≡ true → one ≡ Ok found → P found) → (none ≡ Ok found → P found)
    → (if b then (if c then Err x else one) else none) ≡ Ok found → P found
either_way P true true found x one none taken left is = absurd (cc)
either_way P true false found x one none taken left is = taken refl is
either_way P false c found x one none taken left is = left is

-- of rings with area
abbrev pub OfSolid : (ℕ → Type 0) → List Ring → Type 0
OfSolid S rings = AllByRecursion (λ o. (o.size ≡ 0 → ⊥) → S o.index) rings

held_found : (S : ℕ → Type 0) (r : Ring) (h : Holder) (rings : List Ring) (found : Holder) → (r.size ≡ 0 → ⊥) → IsFound S h
    → OfSolid S rings → held_after r h rings ≡ Ok found → IsFound S found
held_found S r h [] found solid old all is =
    let same : h ≡ found = cc in subst (IsFound S) same old
held_found S r h (o ∷ rings) found solid old all is =
    either_way (IsFound S) (may_hold o r) (is_unclear (place o r)) found (record { outer = o.index; inner = r.index })
    (held_after r (with_placed h o (place o r)) rings) (held_after r h rings)
    (λ holds. held_found S r (with_placed h o (place o r)) rings found solid
    (found_placed S h o (place o r) old (all.0 (larger_solid o r holds solid))) all.1)
    (held_found S r h rings found solid old all.1) is

no_zero : (n : ℕ) → (n == 0) ≡ false → n ≡ 0 → ⊥
no_zero n is none = grind (arith, nat_tests)

holder_if : (S : ℕ → Type 0) (b : Bool) (found : Holder) (one : Result Holder Crossing)
    → (b ≡ false → one ≡ Ok found → IsFound S found) → (if b then Ok no_holder else one) ≡ Ok found → IsFound S found
holder_if S true found one taken is =
    let same : no_holder ≡ found = cc in subst (IsFound S) same (λ some. absurd (some refl))
holder_if S false found one taken is = taken refl is

holder_found : (S : ℕ → Type 0) (rings : List Ring) (r : Ring) (found : Holder) → OfSolid S rings
    → holder_of rings r ≡ Ok found → IsFound S found
unfolding holder_of
holder_found S rings r found all is =
    holder_if S (r.size == 0) found (held_after r no_holder rings)
    (λ solid. held_found S r no_holder rings found (no_zero r.size solid) (λ some. absurd (some refl)) all) is

-- the same of all holders, one by one
ArePaired : (ℕ → Type 0) → List ℕ → List ℕ → Type 0
ArePaired S [] [] = ⊤
ArePaired S [] (l ∷ leasts) = ⊥
ArePaired S (c ∷ counts) [] = ⊥
ArePaired S (c ∷ counts) (l ∷ leasts) = ((c ≡ 0 → ⊥) → S l) × ArePaired S counts leasts

paired_push : (S : ℕ → Type 0) (counts leasts : List ℕ) (c l : ℕ) → ArePaired S counts leasts → ((c ≡ 0 → ⊥) → S l)
    → ArePaired S (counts ++ c ∷ []) (leasts ++ l ∷ [])
unfolding ArePaired
paired_push S [] [] c l are new = (new, tt)
paired_push S [] (m ∷ leasts) c l are new = absurd are
paired_push S (d ∷ counts) [] c l are new = absurd are
paired_push S (d ∷ counts) (m ∷ leasts) c l are new = (are.0, paired_push S counts leasts c l are.1 new)

paired_at : (S : ℕ → Type 0) (counts leasts : List ℕ) (i : ℕ) → ArePaired S counts leasts → (slice_index counts i ≡ 0 → ⊥)
    → S (slice_index leasts i)
unfolding ArePaired
paired_at S [] leasts i are some = absurd (some refl)
paired_at S (c ∷ counts) [] i are some = absurd are
paired_at S (c ∷ counts) (l ∷ leasts) zero are some = are.0 some
paired_at S (c ∷ counts) (l ∷ leasts) (suc i) are some = paired_at S counts leasts i are.1 some

paired_holders : (S : ℕ → Type 0) (all : List Ring) (counts leasts : List ℕ) (rings : List Ring) (h : Holders) → OfSolid S all
    → ArePaired S counts leasts → holders_after all counts leasts rings ≡ Ok h → ArePaired S h.counts h.leasts
paired_holders S all counts leasts [] h solid old is =
    let whole : Holders = record { counts = counts; leasts = leasts } in
    let same : whole ≡ h = cc in subst (λ (x : Holders). ArePaired S x.counts x.leasts) same old
paired_holders S all counts leasts (r ∷ rings) h solid old is =
    let step =
    after_one (λ x. holders_after all (counts ++ x.count ∷ []) (leasts ++ x.least ∷ []) rings) (holder_of all r) h is in
    paired_holders S all (counts ++ step.0.count ∷ []) (leasts ++ step.0.least ∷ []) rings h solid
    (paired_push S counts leasts step.0.count step.0.least old (holder_found S all r step.0 solid step.1)) step.2

nothing_paired : (S : ℕ → Type 0) → ArePaired S [] []
unfolding ArePaired
nothing_paired S = tt

-- what is true of the index of each ring with area is true of the least that holds another
pub least_solid : (S : ℕ → Type 0) (all : List Ring) (h : Holders) → OfSolid S all → holders_after all [] [] all ≡ Ok h
    → (i : ℕ) → (slice_index h.counts i ≡ 0 → ⊥) → S (slice_index h.leasts i)
least_solid S all h solid is i some =
    paired_at S h.counts h.leasts i (paired_holders S all [] [] all h solid (nothing_paired S) is) some
