-- Parts that stay are parts that stood there, each once, and have no more points.
use Rattle.std.proofs.Common.{arith, ◌≡◌, ◌≢◌, ℕ, suc, ◌+◌, ◌==◌, ◌≤◌, Bool, true, false, List, [], ◌∷◌, ◌++◌, length, reverse, refl, sym, ap, subst, ◌∙◌, slice_index_or, inl, inr}
use Rattle.std.specs.Prelude.{if◌then◌else◌, cond}
use Rattle.std.specs.List.{AllByRecursion, count_by}
use Rattle.std.proofs.lemmas.Bool.{both_ways, eq-eqb}
use Rattle.std.proofs.lemmas.List.{length-reverse}
use Rattle.mvt_base.proofs.ListLemmas.{all_weaker}
use Rattle.mvt_geometry.specs.declared.shape.Point.{Point}
use Rattle.mvt_rings.specs.declared.rings.Kept.{Kept}
use Rattle.mvt_rings.specs.Repeats.{is_long, is_same, opened, others_after, past, without_repeats}
use Rattle.mvt_rings.specs.Turning.{turned}
use Rattle.mvt_rings.specs.Origins.{ComesFrom, IsToldFrom}
use Rattle.mvt_rings.specs.Mending.{kept_from}
use Rattle.mvt_mend.proofs.WholeLemmas.{AreApart, IsLess, total, total_is}

-- ---- no more points

pub others_few : (p : Point) (points : List Point) → length (others_after p points) ≤ length points
others_few p [] = omega arith
others_few p (q ∷ points) = by_test (is_same p q) (others_few p points) (others_few q points)
  where
    by_test : (b : Bool) → length (others_after p points) ≤ length points → length (others_after q points) ≤ length points
        → length (if b then others_after p points else q ∷ others_after q points) ≤ length (q ∷ points)
    by_test true here there = omega arith
    by_test false here there = omega arith

pub repeats_few : (points : List Point) → length (without_repeats points) ≤ length points
repeats_few [] = omega arith
repeats_few (p ∷ points) = let few = others_few p points in omega arith

pub past_few : (p : Point) (points : List Point) → length (past p points) ≤ length points
past_few p [] = omega arith
past_few p (q ∷ points) = by_test (is_same p q) (past_few p points)
  where
    by_test : (b : Bool) → length (past p points) ≤ length points → length (if b then past p points else q ∷ points) ≤ length (q ∷ points)
    by_test true few = omega arith
    by_test false few = omega arith

opened_few : (ring : List Point) → length (opened ring) ≤ length ring
opened_few [] = omega arith
opened_few (p ∷ points) =
    let few = past_few p (reverse points) in
    let back = length-reverse (past p (reverse points)) in
    let whole = length-reverse points in omega arith

turned_few : (ring : List Point) → length (turned ring) ≤ length ring
turned_few [] = omega arith
turned_few (p ∷ points) =
    let few = past_few p (reverse points) in
    let whole = length-reverse points in omega arith

pub told_few : (ring points : List Point) → IsToldFrom ring points → length points ≤ length ring
told_few ring points told = elim told [
  | inl same ↦ subst (λ ps. length ps ≤ length ring) (sym same) (omega arith)
  | inr changed ↦ elim changed [
    | inl without ↦ subst (λ ps. length ps ≤ length ring) (sym without) (opened_few ring)
    | inr turns ↦ subst (λ ps. length ps ≤ length ring) (sym turns) (turned_few ring)
  ]
]

comes_less : (rings : List (List Point)) (k : Kept) → ComesFrom rings k → IsLess rings k
comes_less rings k comes =
    let ring = slice_index_or rings k.index [] in
    let few = told_few (without_repeats ring) k.points comes.1 in
    let fewer = repeats_few ring in record { inside = comes.0; few = omega arith }

pub come_less : (rings : List (List Point)) (kept : List Kept) → AllByRecursion (ComesFrom rings) kept → AllByRecursion (IsLess rings) kept
come_less rings kept come = all_weaker (ComesFrom rings) (IsLess rings) (comes_less rings) kept come

-- ---- each once

none_there : (i : ℕ) (kept : List Kept) → total (λ (k : Kept). cond (k.index == i) 1 0) kept ≡ 0
    → AllByRecursion (λ (q : Kept). q.index ≢ i) kept
none_there i [] none = tt
none_there i (k ∷ kept) none = by_test (k.index == i) refl none (λ e. none_there i kept e)
  where
    by_test : (b : Bool) → (k.index == i) ≡ b → cond b 1 0 + total (λ (q : Kept). cond (q.index == i) 1 0) kept ≡ 0
        → (total (λ (q : Kept). cond (q.index == i) 1 0) kept ≡ 0 → AllByRecursion (λ (q : Kept). q.index ≢ i) kept)
        → AllByRecursion (λ (q : Kept). q.index ≢ i) (k ∷ kept)
    by_test true is none rest = absurd (omega arith)
    by_test false is none rest = (
      λ same. absurd (both_ways (k.index == i) is (eq-eqb k.index i same)),
      rest (omega arith),
    )

apart_total : (kept : List Kept) → ((i : ℕ) → total (λ (k : Kept). cond (k.index == i) 1 0) kept ≤ 1) → AreApart kept
apart_total [] once = tt
apart_total (k ∷ kept) once = (
  none_there k.index kept (none_more _ (subst (λ (b : Bool). cond b 1 0 + total (λ (q : Kept). cond (q.index == k.index) 1 0) kept ≤ 1) (eq-eqb k.index k.index refl) (once k.index))),
  apart_total kept (λ i. fewer _ _ (once i)),
)
  where
    none_more : (n : ℕ) → 1 + n ≤ 1 → n ≡ 0
    none_more n few = omega arith

    fewer : (m n : ℕ) → m + n ≤ 1 → n ≤ 1
    fewer m n few = omega arith

pub apart_once : (kept : List Kept) → ((i : ℕ) → count_by (λ (k : Kept). k.index == i) kept ≤ 1) → AreApart kept
apart_once kept once =
    apart_total kept (λ i. subst (λ n. n ≤ 1) (total_is (λ (k : Kept). cond (k.index == i) 1 0) kept) (once i))

-- ---- lines

lines_late : (least n : ℕ) (parts : List (List Point)) → AllByRecursion (λ (q : Kept). n ≤ q.index) (kept_from least n parts)
lines_late least n [] = tt
lines_late least n (part ∷ parts) =
    by_test (is_long least (without_repeats part))
    (all_weaker (λ (q : Kept). n + 1 ≤ q.index) (λ (q : Kept). n ≤ q.index) (λ q late. omega arith) (kept_from least (n + 1) parts)
    (lines_late least (n + 1) parts))
  where
    by_test : (b : Bool) → AllByRecursion (λ (q : Kept). n ≤ q.index) (kept_from least (n + 1) parts)
        → AllByRecursion (λ (q : Kept). n ≤ q.index)
        ((if b then record { index = n; points = without_repeats part } ∷ [] else []) ++ kept_from least (n + 1) parts)
    by_test true rest = (omega arith, rest)
    by_test false rest = rest

pub lines_apart : (least n : ℕ) (parts : List (List Point)) → AreApart (kept_from least n parts)
lines_apart least n [] = tt
lines_apart least n (part ∷ parts) =
    by_test (is_long least (without_repeats part)) (lines_apart least (n + 1) parts)
    (all_weaker (λ (q : Kept). n + 1 ≤ q.index) (λ (q : Kept). q.index ≢ n) (λ q late same. absurd (omega arith)) (kept_from least (n + 1) parts)
    (lines_late least (n + 1) parts))
  where
    by_test : (b : Bool) → AreApart (kept_from least (n + 1) parts)
        → AllByRecursion (λ (q : Kept). q.index ≢ n) (kept_from least (n + 1) parts)
        → AreApart ((if b then record { index = n; points = without_repeats part } ∷ [] else []) ++ kept_from least (n + 1) parts)
    by_test true rest others = (others, rest)
    by_test false rest others = rest

lines_less_from : (least n : ℕ) (all parts : List (List Point)) → length all ≡ n + length parts
    → ((i : ℕ) → slice_index_or all (n + i) [] ≡ slice_index_or parts i []) → AllByRecursion (IsLess all) (kept_from least n parts)
lines_less_from least n all [] as_many same = tt
lines_less_from least n all (part ∷ parts) as_many same =
    by_test (is_long least (without_repeats part))
    (lines_less_from least (n + 1) all parts (omega arith) (λ i. ap (λ j. slice_index_or all j []) (one_on n i) ∙ same (suc i)))
  where
    one_on : (n i : ℕ) → (n + 1) + i ≡ n + suc i
    one_on n i = omega arith

    here : slice_index_or all n [] ≡ part
    here = ap (λ j. slice_index_or all j []) (add_none n) ∙ same 0
      where
        add_none : (m : ℕ) → m ≡ m + 0
        add_none m = omega arith

    by_test : (b : Bool) → AllByRecursion (IsLess all) (kept_from least (n + 1) parts)
        → AllByRecursion (IsLess all)
        ((if b then record { index = n; points = without_repeats part } ∷ [] else []) ++ kept_from least (n + 1) parts)
    by_test true rest = (
      record { inside = omega arith; few = subst (λ ps. length (without_repeats part) ≤ length ps) (sym here) (repeats_few part) },
      rest,
    )
    by_test false rest = rest

pub lines_less : (least : ℕ) (parts : List (List Point)) → AllByRecursion (IsLess parts) (kept_from least 0 parts)
lines_less least parts =
    lines_less_from least 0 parts parts (omega arith) (λ i. ap (λ j. slice_index_or parts j []) (none i))
  where
    none : (i : ℕ) → 0 + i ≡ i
    none i = omega arith
