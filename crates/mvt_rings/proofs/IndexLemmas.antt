-- No index stands twice among the rings that stay.
use Rattle.std.proofs.Common.{arith, ◌≡◌, ℕ, ◌+◌, ◌<◌, ◌≤◌, ◌==◌, Bool, true, false, List, [], ◌∷◌, ◌++◌, count_by, Ok, refl, sym, ap, subst, ◌∙◌}
use Rattle.std.specs.Prelude.{if◌then◌else◌, cond}
use Rattle.std.specs.List.{filter}
use Rattle.std.proofs.lemmas.Bool.Decides.{nat_tests}
use Rattle.mvt_geometry.specs.declared.shape.Point.{Point}
use Rattle.mvt_rings.specs.declared.rings.Ring.{Ring}
use Rattle.mvt_rings.specs.declared.rings.Kept.{Kept}
use Rattle.mvt_rings.specs.Repeats.{without_repeats, is_long}
use Rattle.mvt_rings.specs.Rings.{rings_from}
use Rattle.mvt_rings.specs.Homes.{begun_after, has_ring, homes_after, joined, told, told_by}
use Rattle.mvt_rings.specs.Mending.{begins_negative, kept_from, mended_rings}
use Rattle.mvt_rings.proofs.TotalLemmas.{spread-le, total, total_is, total-filter-le, total-flat_map}
use Rattle.mvt_rings.proofs.JoinedLemmas.{told_spread}
use Rattle.mvt_rings.proofs.ToldRingsLemmas.{homes_found, same_ok, told_one}

-- 1 for an index, else 0
abbrev mark : ℕ → ℕ → ℕ
mark i n = cond (n == i) 1 0

-- of what is numbered from n on an index stands once at most, and not at all if it is before n
pub record IsOnce (i n t : ℕ) : Type 0 where
  pub once : t ≤ 1
  pub before : i < n → t ≡ 0

once_more : (i n t u : ℕ) → t ≡ mark i n + u → IsOnce i (n + 1) u → IsOnce i n t
once_more i n t u is rest =
    let few = rest.once in
    let none = rest.before in
    record { once = few_more i n t u is few none; before = λ early. none_more i n t u is none early }
  where
    few_more : (i n t u : ℕ) → t ≡ mark i n + u → u ≤ 1 → (i < n + 1 → u ≡ 0) → t ≤ 1
    few_more i n t u is few none = grind (arith, nat_tests)

    none_more : (i n t u : ℕ) → t ≡ mark i n + u → (i < n + 1 → u ≡ 0) → i < n → t ≡ 0
    none_more i n t u is none early = grind (arith, nat_tests)

once_less : (i n t : ℕ) → IsOnce i (n + 1) t → IsOnce i n t
once_less i n t rest =
    let none = rest.before in record { once = rest.once; before = λ early. none (omega arith) }

rings_once : (i n : ℕ) (parts : List (List Point)) → IsOnce i n (total (λ r. mark i r.index) (rings_from n parts))
rings_once i n [] = record { once = omega arith; before = λ early. refl }
rings_once i n (part ∷ parts) = once_more i n _ _ refl (rings_once i (n + 1) parts)

kept_one_once : (b : Bool) (i n : ℕ) (ring : List Point) (rest : List Kept) → IsOnce i (n + 1) (total (λ k. mark i k.index) rest)
    → IsOnce i n (total (λ k. mark i k.index) ((if b then record { index = n; points = ring } ∷ [] else []) ++ rest))
kept_one_once true i n ring rest once = once_more i n _ _ refl once
kept_one_once false i n ring rest once = once_less i n _ once

kept_once : (i n : ℕ) (parts : List (List Point)) → IsOnce i n (total (λ k. mark i k.index) (kept_from 3 n parts))
kept_once i n [] = record { once = omega arith; before = λ early. refl }
kept_once i n (part ∷ parts) =
    kept_one_once (is_long 3 (without_repeats part)) i n (without_repeats part) (kept_from 3 (n + 1) parts)
    (kept_once i (n + 1) parts)

told_once : (i : ℕ) (parts : List (List Point)) (kept : List Kept) → told (rings_from 0 parts) ≡ Ok kept
    → total (λ k. mark i k.index) kept ≤ 1
unfolding told_by
told_once i parts kept told =
    let rings = rings_from 0 parts in
    let one = told_one rings kept told in
    let homes = homes_after one.0 [] 0 rings in
    let w = λ (k : Kept). mark i k.index in
    let polygons = joined homes (begun_after homes [] rings) rings in
    let listed = ap (total w) (sym one.3) ∙ total-flat_map w (λ (p : List Kept). filter has_ring p) polygons in
    let fewer = spread-le w (λ (p : List Kept). filter has_ring p) (total-filter-le w has_ring) polygons in
    let all = told_spread w (λ (r : Ring). mark i r.index) (λ r. refl) (λ r. refl) homes rings (homes_found parts one.0 one.1) in
    few _ _ _ _ listed fewer all (rings_once i 0 parts).once
  where
    few : (a b c d : ℕ) → a ≡ b → b ≤ c → c ≡ d → d ≤ 1 → a ≤ 1
    few a b c d p q r s = omega arith

mended_once : (i : ℕ) (b : Bool) (parts : List (List Point)) (kept : List Kept)
    → (if b then told (rings_from 0 parts) else Ok (kept_from 3 0 parts)) ≡ Ok kept → total (λ k. mark i k.index) kept ≤ 1
mended_once i true parts kept mended = told_once i parts kept mended
mended_once i false parts kept mended =
    subst (λ (ks : List Kept). total (λ k. mark i k.index) ks ≤ 1) (same_ok (kept_from 3 0 parts) kept mended)
    (kept_once i 0 parts).once

pub index_once : (parts : List (List Point)) (kept : List Kept) → mended_rings parts ≡ Ok kept
    → (i : ℕ) → count_by (λ k. k.index == i) kept ≤ 1
unfolding mended_rings
index_once parts kept mended i =
    subst (λ n. n ≤ 1) (sym (total_is (λ (k : Kept). mark i k.index) kept))
    (mended_once i (begins_negative (kept_from 3 0 parts)) parts kept mended)
