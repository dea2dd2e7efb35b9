-- Rings that stay have three points.
use Rattle.std.proofs.Common.{◌≡◌, ℕ, ◌+◌, ◌≤◌, Bool, true, false, List, [], ◌∷◌, ◌++◌, length, Ok, refl, subst}
use Rattle.std.specs.Prelude.{if◌then◌else◌, cond}
use Rattle.std.specs.List.{AllByRecursion, filter, flat_map}
use Rattle.std.proofs.lemmas.Bool.{leb-true}
use Rattle.mvt_base.proofs.ListLemmas.{all_joined}
use Rattle.mvt_geometry.specs.declared.shape.Point.{Point}
use Rattle.mvt_rings.specs.declared.rings.Kept.{Kept}
use Rattle.mvt_rings.specs.Repeats.{without_repeats, is_long}
use Rattle.mvt_rings.specs.Rings.{rings_from}
use Rattle.mvt_rings.specs.Homes.{begun_after, has_ring, homes_after, joined, told, told_by}
use Rattle.mvt_rings.specs.Mending.{begins_negative, kept_from, mended_rings}
use Rattle.mvt_rings.proofs.ToldRingsLemmas.{same_ok, told_one}

abbrev HasThree : Kept → Type 0
HasThree k = 3 ≤ length k.points

long_is : (points : List Point) → is_long 3 points ≡ true → 3 ≤ length points
long_is points is = leb-true 3 (length points) is

filter_long : (ks : List Kept) → AllByRecursion HasThree (filter has_ring ks)
filter_long [] = tt
filter_long (k ∷ ks) = by_test (has_ring k) refl (filter_long ks)
  where
    by_test : (b : Bool) → has_ring k ≡ b → AllByRecursion HasThree (filter has_ring ks)
        → AllByRecursion HasThree (cond b (k ∷ filter has_ring ks) (filter has_ring ks))
    by_test true long rest = (long_is k.points long, rest)
    by_test false short rest = rest

polygons_long : (ps : List (List Kept)) → AllByRecursion HasThree (flat_map (λ p. filter has_ring p) ps)
polygons_long [] = tt
polygons_long (p ∷ ps) =
    all_joined HasThree (filter has_ring p) (flat_map (λ q. filter has_ring q) ps) (filter_long p) (polygons_long ps)

kept_long : (n : ℕ) (parts : List (List Point)) → AllByRecursion HasThree (kept_from 3 n parts)
kept_long n [] = tt
kept_long n (part ∷ parts) = by_test (is_long 3 (without_repeats part)) refl (kept_long (n + 1) parts)
  where
    by_test : (b : Bool) → is_long 3 (without_repeats part) ≡ b → AllByRecursion HasThree (kept_from 3 (n + 1) parts)
        → AllByRecursion HasThree
        ((if b then record { index = n; points = without_repeats part } ∷ [] else []) ++ kept_from 3 (n + 1) parts)
    by_test true long rest = (long_is (without_repeats part) long, rest)
    by_test false short rest = rest

told_long : (parts : List (List Point)) (kept : List Kept) → told (rings_from 0 parts) ≡ Ok kept → AllByRecursion HasThree kept
unfolding told_by
told_long parts kept is =
    let rings = rings_from 0 parts in
    let one = told_one rings kept is in
    let homes = homes_after one.0 [] 0 rings in
    subst (AllByRecursion HasThree) one.3 (polygons_long (joined homes (begun_after homes [] rings) rings))

pub rings_are_long : (rings : List (List Point)) (kept : List Kept) → mended_rings rings ≡ Ok kept
    → AllByRecursion (λ k. 3 ≤ length k.points) kept
unfolding mended_rings
rings_are_long rings kept mended = by_test (begins_negative (kept_from 3 0 rings)) mended
  where
    by_test : (b : Bool) → (if b then told (rings_from 0 rings) else Ok (kept_from 3 0 rings)) ≡ Ok kept → AllByRecursion HasThree kept
    by_test true mended = told_long rings kept mended
    by_test false mended = subst (AllByRecursion HasThree) (same_ok (kept_from 3 0 rings) kept mended) (kept_long 0 rings)
