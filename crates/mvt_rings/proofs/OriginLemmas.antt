-- Each ring that stays is one of the rings that stood there.
use Rattle.std.proofs.Common.{arith, ◌≡◌, ℕ, ◌+◌, ◌<◌, ◌==◌, zero, suc, Bool, true, false, List, [], ◌∷◌, ◌++◌, length, inl, inr, Ok, sym, ap, subst, ◌∙◌}
use Rattle.std.specs.Prelude.{if◌then◌else◌, cond, slice_index, slice_index_or}
use Rattle.std.specs.List.{AllByRecursion, filter, flat_map}
use Rattle.mvt_base.proofs.ListLemmas.{all_joined}
use Rattle.mvt_geometry.specs.declared.shape.Point.{Point}
use Rattle.mvt_rings.specs.declared.rings.Ring.{Ring}
use Rattle.mvt_rings.specs.declared.rings.Kept.{Kept}
use Rattle.mvt_rings.specs.Signs.{is_positive, is_negative}
use Rattle.mvt_rings.specs.Repeats.{without_repeats, opened, is_long}
use Rattle.mvt_rings.specs.Turning.{turned, as_exterior, as_interior}
use Rattle.mvt_rings.specs.Rings.{ring_of, rings_from}
use Rattle.mvt_rings.specs.Homes.{begun, begun_after, exterior, interior, has_ring, homes_after, join, joined, told, told_by}
use Rattle.mvt_rings.specs.Mending.{begins_negative, kept_from, mended_rings}
use Rattle.mvt_rings.specs.Origins.{ComesFrom, IsToldFrom, ring_at}
use Rattle.mvt_rings.proofs.JoinedLemmas.{is_home}
use Rattle.mvt_rings.proofs.RingsStayLemmas.{turned-opened}
use Rattle.mvt_rings.proofs.ToldRingsLemmas.{same_ok, told_one}

-- what holds of each ring as an exterior and as an interior one holds of each that is told
abbrev pub BothWays : (Kept → Type 0) → List Ring → Type 0
BothWays P rings = AllByRecursion (λ r. P (exterior r) × P (interior r)) rings

abbrev EachRing : (Kept → Type 0) → List (List Kept) → Type 0
EachRing P polygons = AllByRecursion (AllByRecursion P) polygons

each_begun : (P : Kept → Type 0) (b : Bool) (k : Kept) → P k → AllByRecursion P (if b then k ∷ [] else [])
each_begun P true k holds = (holds, tt)
each_begun P false k holds = tt

all_begun : (P : Kept → Type 0) (homes : List ℕ) (ps : List (List Kept)) (rings : List Ring) → EachRing P ps → BothWays P rings
    → EachRing P (begun_after homes ps rings)
all_begun P homes ps [] before both = before
all_begun P homes ps (r ∷ rings) before both =
    all_begun P homes (ps ++ begun homes r ∷ []) rings
    (all_joined (AllByRecursion P) ps (begun homes r ∷ []) before
    (each_begun P (slice_index homes r.index == r.index) (exterior r) both.0.0, tt)) both.1

all_join : (P : Kept → Type 0) (n : ℕ) (k : Kept) (ps : List (List Kept)) → P k → EachRing P ps → EachRing P (join n k ps)
all_join P n k [] holds before = tt
all_join P zero k (p ∷ ps) holds before = (all_joined P p (k ∷ []) before.0 (holds, tt), before.1)
all_join P (suc n) k (p ∷ ps) holds before = (before.0, all_join P n k ps holds before.1)

one_way : (P : Kept → Type 0) (b : Bool) (here there : List (List Kept)) → EachRing P here → EachRing P there
    → EachRing P (if b then here else there)
one_way P true here there one other = one
one_way P false here there one other = other

all_rings : (P : Kept → Type 0) (homes : List ℕ) (ps : List (List Kept)) (rings : List Ring) → EachRing P ps → BothWays P rings
    → EachRing P (joined homes ps rings)
all_rings P homes ps [] before both = before
all_rings P homes ps (r ∷ rings) before both =
    let home = slice_index homes r.index in
    one_way P (is_home homes r) (joined homes ps rings) (joined homes (join home (interior r) ps) rings)
    (all_rings P homes ps rings before both.1)
    (all_rings P homes (join home (interior r) ps) rings (all_join P home (interior r) ps both.0.1 before) both.1)

one_left : (P : Kept → Type 0) (b : Bool) (k : Kept) (ks : List Kept) → P k → AllByRecursion P ks
    → AllByRecursion P (cond b (k ∷ ks) ks)
one_left P true k ks holds more = (holds, more)
one_left P false k ks holds more = more

all_filtered : (P : Kept → Type 0) (test : Kept → Bool) (ks : List Kept) → AllByRecursion P ks → AllByRecursion P (filter test ks)
all_filtered P test [] before = tt
all_filtered P test (k ∷ ks) before = one_left P (test k) k (filter test ks) before.0 (all_filtered P test ks before.1)

all_listed : (P : Kept → Type 0) (ps : List (List Kept)) → EachRing P ps
    → AllByRecursion P (flat_map (λ p. filter has_ring p) ps)
all_listed P [] before = tt
all_listed P (p ∷ ps) before =
    all_joined P (filter has_ring p) (flat_map (λ p. filter has_ring p) ps) (all_filtered P has_ring p before.0)
    (all_listed P ps before.1)

pub all_told : (P : Kept → Type 0) (homes : List ℕ) (rings : List Ring) → BothWays P rings
    → AllByRecursion P (told_by homes rings)
unfolding told_by
all_told P homes rings both =
    all_listed P (joined homes (begun_after homes [] rings) rings)
    (all_rings P homes (begun_after homes [] rings) rings (all_begun P homes [] rings tt both) both)

-- the rings from an index on are those that are left
pub record AreLeft (all : List (List Point)) (n : ℕ) (parts : List (List Point)) : Type 0 where
  pub whole : n + length parts ≡ length all
  pub at : (i : ℕ) → slice_index_or all (n + i) [] ≡ slice_index_or parts i []

left_first : (all : List (List Point)) (n : ℕ) (part : List Point) (parts : List (List Point)) → AreLeft all n (part ∷ parts)
    → slice_index_or all n [] ≡ part
left_first all n part parts left =
    let same : n ≡ n + 0 = omega arith in ap (λ i. slice_index_or all i []) same ∙ left.at 0

left_more : (all : List (List Point)) (n : ℕ) (part : List Point) (parts : List (List Point)) → AreLeft all n (part ∷ parts)
    → AreLeft all (n + 1) parts
left_more all n part parts left = record {
  whole = omega (arith, left.whole);
  at = λ i. let same : (n + 1) + i ≡ n + suc i = omega arith in ap (λ j. slice_index_or all j []) same ∙ left.at (suc i);
}

left_all : (all : List (List Point)) → AreLeft all 0 all
left_all all = record {
  whole = omega arith;
  at = λ i. let same : 0 + i ≡ i = omega arith in ap (λ j. slice_index_or all j []) same;
}

if_told : (ring points : List Point) (b : Bool) → points ≡ opened ring → IsToldFrom ring (if b then turned points else points)
if_told ring points true is = inr (inr (ap turned is ∙ turned-opened ring))
if_told ring points false is = inr (inl is)

told_both : (all : List (List Point)) (r : Ring) → r.index < length all → r.points ≡ opened (ring_at all r.index)
    → ComesFrom all (exterior r) × ComesFrom all (interior r)
unfolding as_exterior as_interior
told_both all r within is = (
  (within, if_told (ring_at all r.index) r.points (is_negative r.points) is),
  (within, if_told (ring_at all r.index) r.points (is_positive r.points) is),
)

both_from : (all : List (List Point)) (n : ℕ) (parts : List (List Point)) → AreLeft all n parts
    → BothWays (ComesFrom all) (rings_from n parts)
both_from all n [] left = tt
both_from all n (part ∷ parts) left = (
  told_both all (ring_of n (opened (without_repeats part))) (omega (arith, left.whole))
      (ap (λ p. opened (without_repeats p)) (sym (left_first all n part parts left))),
  both_from all (n + 1) parts (left_more all n part parts left),
)

kept_origins : (all : List (List Point)) (n : ℕ) (parts : List (List Point)) → AreLeft all n parts
    → AllByRecursion (ComesFrom all) (kept_from 3 n parts)
kept_origins all n [] left = tt
kept_origins all n (part ∷ parts) left =
    all_joined (ComesFrom all)
    (if is_long 3 (without_repeats part) then record { index = n; points = without_repeats part } ∷ [] else [])
    (kept_from 3 (n + 1) parts)
    (each_begun (ComesFrom all) (is_long 3 (without_repeats part)) (record { index = n; points = without_repeats part })
    (omega (arith, left.whole), inl (ap without_repeats (sym (left_first all n part parts left)))))
    (kept_origins all (n + 1) parts (left_more all n part parts left))

mended_origins : (b : Bool) (parts : List (List Point)) (kept : List Kept)
    → (if b then told (rings_from 0 parts) else Ok (kept_from 3 0 parts)) ≡ Ok kept → AllByRecursion (ComesFrom parts) kept
mended_origins true parts kept mended =
    let rings = rings_from 0 parts in
    let one = told_one rings kept mended in
    subst (AllByRecursion (ComesFrom parts)) one.3
    (all_told (ComesFrom parts) (homes_after one.0 [] 0 rings) rings (both_from parts 0 parts (left_all parts)))
mended_origins false parts kept mended =
    subst (AllByRecursion (ComesFrom parts)) (same_ok (kept_from 3 0 parts) kept mended)
    (kept_origins parts 0 parts (left_all parts))

pub origins : (parts : List (List Point)) (kept : List Kept) → mended_rings parts ≡ Ok kept
    → AllByRecursion (ComesFrom parts) kept
unfolding mended_rings
origins parts kept mended = mended_origins (begins_negative (kept_from 3 0 parts)) parts kept mended
