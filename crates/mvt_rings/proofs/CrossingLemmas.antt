-- Why two rings are told to cross.
use Rattle.std.proofs.Common.{arith, ◌≡◌, ◌≢◌, ℕ, zero, suc, ◌+◌, ◌==◌, Bool, true, false, List, [], ◌∷◌, ◌++◌, Option, Some, None, refl, sym, ap, subst, ◌∙◌, slice_index, inl, inr}
use Rattle.std.specs.Prelude.{if◌then◌else◌, Result, Ok, Err, ◌⊎◌}
use Rattle.std.proofs.lemmas.Bool.{both_ways, eq-eqb, eqb-true}
use Rattle.mvt_base.specs.Rules.{IsOneOf}
use Rattle.mvt_geometry.specs.declared.shape.Point.{Point}
use Rattle.mvt_rings.specs.declared.rings.Kept.{Kept}
use Rattle.mvt_rings.specs.declared.holding.Crossing.{Crossing}
use Rattle.mvt_rings.specs.declared.rings.Ring.{Ring}
use Rattle.mvt_rings.specs.declared.placing.Place.{Place}
use Rattle.mvt_rings.specs.declared.placing.Place.TheVariants.{Held, Apart, Unclear}
use Rattle.mvt_rings.specs.declared.holding.Holder.{Holder}
use Rattle.mvt_rings.specs.declared.holding.Holders.{Holders}
use Rattle.mvt_rings.specs.Rings.{may_hold, place}
use Rattle.mvt_rings.specs.Rings.{rings_from}
use Rattle.mvt_rings.specs.Holding.{and_then, held_after, holder_of, holders_after, holders_of, is_odd_one, is_unclear, no_holder, odd_one_from, with_placed}
use Rattle.mvt_rings.specs.Homes.{told, told_as, told_with}
use Rattle.mvt_rings.specs.Mending.{begins_negative, mended_rings}
use Rattle.mvt_rings.specs.Mending.{kept_from}
use Rattle.mvt_rings.specs.Crossings.{AreNoTree, AreUnclear}

-- a ring that crosses another
pub record Crosses (rings : List Ring) (r : Ring) (c : Crossing) : Type 0 where
  pub outer : Ring
  pub there : IsOneOf rings outer
  pub outer_index : outer.index ≡ c.outer
  pub inner_index : r.index ≡ c.inner
  pub may : may_hold outer r ≡ true
  pub unclear : place outer r ≡ Unclear

unclear_is : (p : Place) → is_unclear p ≡ true → p ≡ Unclear
unclear_is Held is = absurd (cc)
unclear_is Apart is = absurd (cc)
unclear_is Unclear is = refl

more_rings : (o r : Ring) (rings : List Ring) (c : Crossing) → Crosses rings r c → Crosses (o ∷ rings) r c
more_rings o r rings c is = record {
  outer = is.outer;
  there = inr is.there;
  outer_index = is.outer_index;
  inner_index = is.inner_index;
  may = is.may;
  unclear = is.unclear;
}

held_crosses : (r : Ring) (h : Holder) (rings : List Ring) (c : Crossing) → held_after r h rings ≡ Err c → Crosses rings r c
held_crosses r h [] c is = absurd (cc)
held_crosses r h (o ∷ rings) c is =
    by_test (may_hold o r) (is_unclear (place o r)) refl refl (λ g more. more_rings o r rings c (held_crosses r g rings c more)) is
  where
    by_test : (a b : Bool) → may_hold o r ≡ a → is_unclear (place o r) ≡ b
        → ((g : Holder) → held_after r g rings ≡ Err c → Crosses (o ∷ rings) r c)
        → (if a then (if b then Err (record { outer = o.index; inner = r.index }) else held_after r (with_placed h o (place o r)) rings)
        else held_after r h rings) ≡ Err c
        → Crosses (o ∷ rings) r c
    by_test true true may unclear more is =
        let one : Crossing = record { outer = o.index; inner = r.index } in
        let same : one ≡ c = cc in
        record {
          outer = o;
          there = inl refl;
          outer_index = ap (λ (d : Crossing). d.outer) same;
          inner_index = ap (λ (d : Crossing). d.inner) same;
          may = may;
          unclear = unclear_is (place o r) unclear;
        }
    by_test true false may clear more is = more (with_placed h o (place o r)) is
    by_test false b may clear more is = more h is

holder_crosses : (rings : List Ring) (r : Ring) (c : Crossing) → holder_of rings r ≡ Err c → (r.size ≢ 0) × Crosses rings r c
unfolding holder_of
holder_crosses rings r c is = by_test (r.size == 0) refl is
  where
    by_test : (b : Bool) → (r.size == 0) ≡ b → (if b then Ok no_holder else held_after r no_holder rings) ≡ Err c
        → (r.size ≢ 0) × Crosses rings r c
    by_test true none is = absurd (cc)
    by_test false some is =
        (λ none. absurd (both_ways (r.size == 0) some (eq-eqb r.size 0 none)), held_crosses r no_holder rings c is)

-- one of rings crosses one of all
found_crossing : (all : List Ring) (counts leasts : List ℕ) (rings : List Ring) (c : Crossing) → holders_after all counts leasts rings ≡ Err c
    → (r : Ring) × IsOneOf rings r × (r.size ≢ 0) × Crosses all r c
found_crossing all counts leasts [] c is = absurd (cc)
found_crossing all counts leasts (r ∷ rings) c is =
    by_holder (holder_of all r) refl (λ cs ls more. found_crossing all cs ls rings c more) is
  where
    by_holder : (one : Result Holder Crossing) → holder_of all r ≡ one
        → ((cs ls : List ℕ) → holders_after all cs ls rings ≡ Err c → (q : Ring) × IsOneOf rings q × (q.size ≢ 0) × Crosses all q c)
        → and_then (λ h. holders_after all (counts ++ h.count ∷ []) (leasts ++ h.least ∷ []) rings) one ≡ Err c
        → (q : Ring) × IsOneOf (r ∷ rings) q × (q.size ≢ 0) × Crosses all q c
    by_holder (Ok h) here more is =
        let found = more (counts ++ h.count ∷ []) (leasts ++ h.least ∷ []) is in (found.0, inr found.1, found.2, found.3)
    by_holder (Err d) here more is =
        let same : d ≡ c = cc in
        let crosses = holder_crosses all r c (here ∙ ap (λ e. Err e) same) in (r, inl refl, crosses.0, crosses.1)

unclear_rings : (rings : List Ring) (c : Crossing) → holders_of rings ≡ Err c → AreUnclear rings c
unclear_rings rings c is =
    let found = found_crossing rings [] [] rings c is in
    let crosses = found.3 in
    record {
      outer = crosses.outer;
      inner = found.0;
      outer_there = crosses.there;
      inner_there = found.1;
      outer_index = crosses.outer_index;
      inner_index = crosses.inner_index;
      has_area = found.2;
      may = crosses.may;
      unclear = crosses.unclear;
    }

-- the first ring whose least holder has not one holder less
pub record IsOdd (h : Holders) (n : ℕ) (counts : List ℕ) (c : Crossing) : Type 0 where
  pub place : ℕ
  pub inner : c.inner ≡ n + place
  pub outer : c.outer ≡ slice_index h.leasts c.inner
  pub odd : is_odd_one h c.inner (slice_index counts place) ≡ true

odd_from : (h : Holders) (n : ℕ) (counts : List ℕ) (c : Crossing) → odd_one_from h n counts ≡ Some c → IsOdd h n counts c
odd_from h n [] c is = absurd (cc)
odd_from h n (count ∷ counts) c is = by_test (is_odd_one h n count) refl (λ more. odd_from h (n + 1) counts c more) is
  where
    next : (n m : ℕ) → (n + 1) + m ≡ n + suc m
    next n m = omega arith

    none : (n : ℕ) → n ≡ n + 0
    none n = omega arith

    by_test : (b : Bool) → is_odd_one h n count ≡ b → (odd_one_from h (n + 1) counts ≡ Some c → IsOdd h (n + 1) counts c)
        → (if b then Some (record { outer = slice_index h.leasts n; inner = n }) else odd_one_from h (n + 1) counts) ≡ Some c
        → IsOdd h n (count ∷ counts) c
    by_test true odd more is =
        let one : Crossing = record { outer = slice_index h.leasts n; inner = n } in
        let same : one ≡ c = cc in
        let inner : n ≡ c.inner = ap (λ (d : Crossing). d.inner) same in
        record {
          place = 0;
          inner = sym inner ∙ none n;
          outer = sym (ap (λ (d : Crossing). d.outer) same) ∙ ap (slice_index h.leasts) inner;
          odd = subst (λ m. is_odd_one h m count ≡ true) inner odd;
        }
    by_test false even more is =
        let found = more is in
        record { place = suc found.place; inner = found.inner ∙ next n found.place; outer = found.outer; odd = found.odd }

told_crosses : (rings : List Ring) (c : Crossing) → told rings ≡ Err c → AreUnclear rings c ⊎ AreNoTree rings c
unfolding told
told_crosses rings c is = by_holders (holders_of rings) refl is
  where
    by_odd : (h : Holders) → holders_of rings ≡ Ok h → (odd : Option Crossing) → odd_one_from h 0 h.counts ≡ odd
        → told_as rings h odd ≡ Err c → AreNoTree rings c
    by_odd h are (Some d) first is =
        let same : d ≡ c = cc in
        let found = odd_from h 0 h.counts c (first ∙ ap Some same) in
        let place : c.inner ≡ found.place = found.inner ∙ zero_on found.place in
        record {
          holders = h;
          held = are;
          least = found.outer;
          odd = subst (λ m. is_odd_one h c.inner (slice_index h.counts m) ≡ true) (sym place) found.odd;
        }
      where
        zero_on : (n : ℕ) → 0 + n ≡ n
        zero_on n = omega arith
    by_odd h are None first is = absurd (cc)

    by_holders : (found : Result Holders Crossing) → holders_of rings ≡ found → told_with rings found ≡ Err c
        → AreUnclear rings c ⊎ AreNoTree rings c
    by_holders (Ok h) are is = inr (by_odd h are (odd_one_from h 0 h.counts) refl is)
    by_holders (Err d) are is = let same : d ≡ c = cc in inl (unclear_rings rings c (are ∙ ap (λ e. Err e) same))

pub crossing_holds : (rings : List (List Point)) (c : Crossing) → mended_rings rings ≡ Err c
    → AreUnclear (rings_from 0 rings) c ⊎ AreNoTree (rings_from 0 rings) c
unfolding mended_rings
crossing_holds rings c is = by_test (begins_negative (kept_from 3 0 rings)) is
  where
    by_test : (b : Bool) → (if b then told (rings_from 0 rings) else Ok (kept_from 3 0 rings)) ≡ Err c
        → AreUnclear (rings_from 0 rings) c ⊎ AreNoTree (rings_from 0 rings) c
    by_test true is = told_crosses (rings_from 0 rings) c is
    by_test false is = absurd (cc)

-- ---- where rings are told none cross

clear_held : (r : Ring) (h g : Holder) (rings : List Ring) → held_after r h rings ≡ Ok g → (o : Ring) → IsOneOf rings o
    → may_hold o r ≡ true → place o r ≡ Unclear → ⊥
clear_held r h g [] is o there may unclear = there
clear_held r h g (q ∷ rings) is o there may unclear =
    by_test (may_hold q r) (is_unclear (place q r)) refl refl (λ f more. clear_held r f g rings more) is
  where
    by_test : (a b : Bool) → may_hold q r ≡ a → is_unclear (place q r) ≡ b
        → ((f : Holder) → held_after r f rings ≡ Ok g → (o : Ring) → IsOneOf rings o → may_hold o r ≡ true → place o r ≡ Unclear → ⊥)
        → (if a then (if b then Err (record { outer = q.index; inner = r.index }) else held_after r (with_placed h q (place q r)) rings)
        else held_after r h rings) ≡ Ok g → ⊥
    by_test true true m u rest is = cc
    by_test true false m u rest is = elim there [
      | inl same ↦ absurd (both_ways (is_unclear (place q r)) u (ap (λ x. is_unclear (place x r)) same ∙ ap is_unclear unclear))
      | inr more ↦ rest (with_placed h q (place q r)) is o more may unclear
    ]
    by_test false b m u rest is = elim there [
      | inl same ↦ absurd (both_ways (may_hold q r) m (ap (λ x. may_hold x r) same ∙ may))
      | inr more ↦ rest h is o more may unclear
    ]

clear_holder : (rings : List Ring) (r : Ring) (g : Holder) → holder_of rings r ≡ Ok g → r.size ≢ 0 → (o : Ring) → IsOneOf rings o
    → may_hold o r ≡ true → place o r ≡ Unclear → ⊥
unfolding holder_of
clear_holder rings r g is some o there may unclear = by_test (r.size == 0) refl is
  where
    by_test : (b : Bool) → (r.size == 0) ≡ b → (if b then Ok no_holder else held_after r no_holder rings) ≡ Ok g → ⊥
    by_test true none is = some (eqb-true r.size 0 none)
    by_test false more is = clear_held r no_holder g rings is o there may unclear

clear_all : (all : List Ring) (counts leasts : List ℕ) (rings : List Ring) (h : Holders) → holders_after all counts leasts rings ≡ Ok h
    → (r o : Ring) → IsOneOf rings r → r.size ≢ 0 → IsOneOf all o → may_hold o r ≡ true → place o r ≡ Unclear → ⊥
clear_all all counts leasts [] h is r o there some other may unclear = there
clear_all all counts leasts (q ∷ rings) h is r o there some other may unclear =
    by_holder (holder_of all q) refl (λ cs ls more. clear_all all cs ls rings h more r o) is
  where
    by_holder : (one : Result Holder Crossing) → holder_of all q ≡ one
        → ((cs ls : List ℕ) → holders_after all cs ls rings ≡ Ok h → IsOneOf rings r → r.size ≢ 0 → IsOneOf all o → may_hold o r ≡ true
        → place o r ≡ Unclear → ⊥)
        → and_then (λ g. holders_after all (counts ++ g.count ∷ []) (leasts ++ g.least ∷ []) rings) one ≡ Ok h → ⊥
    by_holder (Ok g) here rest is = elim there [
      | inl same ↦ clear_holder all r g (ap (holder_of all) (sym same) ∙ here) some o other may unclear
      | inr more ↦ rest (counts ++ g.count ∷ []) (leasts ++ g.least ∷ []) is more some other may unclear
    ]
    by_holder (Err d) here rest is = cc

even_none : (h : Holders) (n m : ℕ) → is_odd_one h n (slice_index [] m) ≡ true → ⊥
unfolding is_odd_one
even_none h n m odd = cc

even_all : (h : Holders) (n : ℕ) (counts : List ℕ) → odd_one_from h n counts ≡ None → (m : ℕ)
    → is_odd_one h (n + m) (slice_index counts m) ≡ true → ⊥
even_all h n [] none m odd = even_none h (n + m) m odd
even_all h n (count ∷ counts) none zero odd =
    by_test (is_odd_one h n count) (ap (λ k. is_odd_one h k count) (none_on n) ∙ odd) none
  where
    none_on : (n : ℕ) → n ≡ n + 0
    none_on n = omega arith

    by_test : (b : Bool) → b ≡ true
        → (if b then Some (record { outer = slice_index h.leasts n; inner = n }) else odd_one_from h (n + 1) counts) ≡ None → ⊥
    by_test true is none = cc
    by_test false is none = cc
even_all h n (count ∷ counts) none (suc m) odd =
    by_test (is_odd_one h n count) none (λ more. even_all h (n + 1) counts more m (ap (λ k. is_odd_one h k (slice_index counts m)) (next n m) ∙ odd))
  where
    next : (n m : ℕ) → (n + 1) + m ≡ n + suc m
    next n m = omega arith

    by_test : (b : Bool)
        → (if b then Some (record { outer = slice_index h.leasts n; inner = n }) else odd_one_from h (n + 1) counts) ≡ None
        → (odd_one_from h (n + 1) counts ≡ None → ⊥) → ⊥
    by_test true none rest = cc
    by_test false none rest = rest none

told_none : (rings : List Ring) (kept : List Kept) (c : Crossing) → told rings ≡ Ok kept → AreUnclear rings c ⊎ AreNoTree rings c → ⊥
unfolding told
told_none rings kept c is cross = by_holders (holders_of rings) refl is
  where
    by_odd : (h : Holders) → holders_of rings ≡ Ok h → (odd : Option Crossing) → odd_one_from h 0 h.counts ≡ odd
        → told_as rings h odd ≡ Ok kept → ⊥
    by_odd h are (Some d) first is = cc
    by_odd h are None first is = elim cross [
      | inl unclear ↦ clear_all rings [] [] rings h are unclear.inner unclear.outer unclear.inner_there unclear.has_area unclear.outer_there
          unclear.may unclear.unclear
      | inr no_tree ↦ even_all h 0 h.counts first c.inner (odd_is no_tree)
    ]
      where
        odd_is : AreNoTree rings c → is_odd_one h (0 + c.inner) (slice_index h.counts c.inner) ≡ true
        odd_is no_tree =
            let both = sym are ∙ no_tree.held in
            let same : h ≡ no_tree.holders = cc in
            let zero_on : 0 + c.inner ≡ c.inner = omega arith in
            ap (λ k. is_odd_one h k (slice_index h.counts c.inner)) zero_on
            ∙ ap (λ (g : Holders). is_odd_one g c.inner (slice_index g.counts c.inner)) same ∙ no_tree.odd

    by_holders : (found : Result Holders Crossing) → holders_of rings ≡ found → told_with rings found ≡ Ok kept → ⊥
    by_holders (Ok h) are is = by_odd h are (odd_one_from h 0 h.counts) refl is
    by_holders (Err d) are is = cc

pub told_uncrossed : (rings : List (List Point)) (kept : List Kept) (c : Crossing) → begins_negative (kept_from 3 0 rings) ≡ true
    → mended_rings rings ≡ Ok kept → AreUnclear (rings_from 0 rings) c ⊎ AreNoTree (rings_from 0 rings) c → ⊥
unfolding mended_rings
told_uncrossed rings kept c begins is cross = told_none (rings_from 0 rings) kept c (rw begins at is) cross
