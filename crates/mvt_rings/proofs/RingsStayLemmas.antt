-- What can be counted of rings stays.
use Rattle.std.proofs.Common.{arith, ◌≡◌, ℕ, ◌+◌, ◌<◌, Bool, true, false, List, [], ◌∷◌, ◌++◌, map, reverse, length, sum_by, Ok, refl, sym, ap, ap₂, ◌∙◌}
use Rattle.std.specs.Prelude.{if◌then◌else◌}
use Rattle.std.specs.List.{filter}
use Rattle.std.proofs.lemmas.Bool.Decides.{nat_tests}
use Rattle.std.proofs.lemmas.List.{reverse-reverse}
use Rattle.mvt_geometry.specs.declared.shape.Point.{Point}
use Rattle.mvt_rings.specs.declared.rings.Ring.{Ring}
use Rattle.mvt_rings.specs.declared.rings.Kept.{Kept}
use Rattle.mvt_rings.specs.Signs.{is_positive, is_negative}
use Rattle.mvt_rings.specs.Repeats.{is_same, past, opened, without_repeats, is_long}
use Rattle.mvt_rings.specs.Turning.{turned, as_exterior, as_interior}
use Rattle.mvt_rings.specs.Rings.{rings_from}
use Rattle.mvt_rings.specs.Homes.{begun_after, has_ring, homes_after, joined, told, told_by}
use Rattle.mvt_rings.specs.Mending.{begins_negative, kept_from, mended_rings}
use Rattle.mvt_rings.specs.Counting.{IsCount}
use Rattle.mvt_rings.proofs.TotalLemmas.{total, total_is, total_same, total-filter, total-flat_map, total-map}
use Rattle.mvt_rings.proofs.JoinedLemmas.{told_spread}
use Rattle.mvt_rings.proofs.ToldRingsLemmas.{homes_found, same_ok, told_one}

-- past what equals a point nothing more is passed
past_one : (b : Bool) (p q : Point) (xs : List Point) → is_same p q ≡ b → past p (past p xs) ≡ past p xs
    → past p (if b then past p xs else q ∷ xs) ≡ (if b then past p xs else q ∷ xs)
past_one true p q xs is again = again
past_one false p q xs is again = rw is refl

past-past : (p : Point) (xs : List Point) → past p (past p xs) ≡ past p xs
past-past p [] = refl
past-past p (q ∷ xs) = past_one (is_same p q) p q xs refl (past-past p xs)

pub turned-opened : (ring : List Point) → turned (opened ring) ≡ turned ring
turned-opened [] = refl
turned-opened (p ∷ points) =
    ap (λ xs. p ∷ past p xs) (reverse-reverse (past p (reverse points))) ∙ ap (λ xs. p ∷ xs) (past-past p (reverse points))

if_turned : (count : List Point → ℕ) (b : Bool) (ring : List Point) → count (turned ring) ≡ count ring
    → count (if b then turned ring else ring) ≡ count ring
if_turned count true ring same = same
if_turned count false ring same = refl

pub count_exterior : (count : List Point → ℕ) → IsCount count → (ring : List Point) → count (as_exterior ring) ≡ count ring
unfolding as_exterior
count_exterior count is ring = if_turned count (is_negative ring) ring (is.turns ring)

pub count_interior : (count : List Point → ℕ) → IsCount count → (ring : List Point) → count (as_interior ring) ≡ count ring
unfolding as_interior
count_interior count is ring = if_turned count (is_positive ring) ring (is.turns ring)

count_opened : (count : List Point → ℕ) → IsCount count → (part : List Point) → count (opened (without_repeats part)) ≡ count part
count_opened count is part =
    sym (is.turns (opened (without_repeats part)))
    ∙ (ap count (turned-opened (without_repeats part)) ∙ (is.turns (without_repeats part) ∙ is.repeats part))

pub too_short : (ring : List Point) → is_long 3 ring ≡ false → length ring < 3
too_short ring is = grind (arith, nat_tests)

-- rings that stay as they were
kept_count : (count : List Point → ℕ) (b : Bool) (n : ℕ) (ring : List Point) (c t : ℕ) (rest : List Kept) → count ring ≡ c
    → (b ≡ false → count ring ≡ 0) → total (λ k. count k.points) rest ≡ t
    → total (λ k. count k.points) ((if b then record { index = n; points = ring } ∷ [] else []) ++ rest) ≡ c + t
kept_count count true n ring c t rest same short more = ap₂ (λ a b. a + b) same more
kept_count count false n ring c t rest same short more =
    let none : c ≡ 0 = sym same ∙ short refl in more ∙ omega arith

count_kept : (count : List Point → ℕ) → IsCount count → (n : ℕ) (parts : List (List Point))
    → total (λ k. count k.points) (kept_from 3 n parts) ≡ total count parts
count_kept count is n [] = refl
count_kept count is n (part ∷ parts) =
    kept_count count (is_long 3 (without_repeats part)) n (without_repeats part) (count part) (total count parts)
    (kept_from 3 (n + 1) parts) (is.repeats part)
    (λ short. is.short (without_repeats part) (too_short (without_repeats part) short))
    (count_kept count is (n + 1) parts)

pub count_rings : (count : List Point → ℕ) → IsCount count → (n : ℕ) (parts : List (List Point))
    → total (λ r. count r.points) (rings_from n parts) ≡ total count parts
count_rings count is n [] = refl
count_rings count is n (part ∷ parts) = ap₂ (λ a b. a + b) (count_opened count is part) (count_rings count is (n + 1) parts)

told_count : (count : List Point → ℕ) → IsCount count → (parts : List (List Point)) (kept : List Kept)
    → told (rings_from 0 parts) ≡ Ok kept → total (λ k. count k.points) kept ≡ total count parts
unfolding told_by
told_count count is parts kept told =
    let rings = rings_from 0 parts in
    let one = told_one rings kept told in
    let homes = homes_after one.0 [] 0 rings in
    let w = λ (k : Kept). count k.points in
    let v = λ (r : Ring). count r.points in
    let polygons = joined homes (begun_after homes [] rings) rings in
    ap (total w) (sym one.3)
    ∙ (total-flat_map w (λ (p : List Kept). filter has_ring p) polygons
    ∙ (total_same (λ (p : List Kept). total w (filter has_ring p)) (total w)
    (total-filter w has_ring (λ k short. is.short k.points (too_short k.points short))) polygons
    ∙ (told_spread w v (λ r. count_exterior count is r.points) (λ r. count_interior count is r.points) homes rings
    (homes_found parts one.0 one.1)
    ∙ count_rings count is 0 parts)))

mended_count : (count : List Point → ℕ) → IsCount count → (b : Bool) (parts : List (List Point)) (kept : List Kept)
    → (if b then told (rings_from 0 parts) else Ok (kept_from 3 0 parts)) ≡ Ok kept
    → total (λ k. count k.points) kept ≡ total count parts
mended_count count is true parts kept mended = told_count count is parts kept mended
mended_count count is false parts kept mended =
    ap (total (λ (k : Kept). count k.points)) (sym (same_ok (kept_from 3 0 parts) kept mended)) ∙ count_kept count is 0 parts

pub rings_stay : (count : List Point → ℕ) → IsCount count → (parts : List (List Point)) (kept : List Kept)
    → mended_rings parts ≡ Ok kept → sum_by count (map (λ k. k.points) kept) ≡ sum_by count parts
unfolding mended_rings
rings_stay count is parts kept mended =
    total_is count (map (λ k. k.points) kept)
    ∙ (total-map count (λ (k : Kept). k.points) kept
    ∙ (mended_count count is (begins_negative (kept_from 3 0 parts)) parts kept mended ∙ sym (total_is count parts)))
