-- Twice the area of a ring as the sum over the edges of a path and the closing edge.
use Rattle.std.proofs.Common.{◌≡◌, ℕ, ◌+◌, ◌*◌, ◌^◌, ◌<◌, ◌≤◌, ◌-◌, ℤ, ◌+ℤ◌, ◌-ℤ◌, List, [], ◌∷◌, ◌++◌, length, get_or, suc, FitsSigned, to_z, of_z, refl, ap, ◌∙◌, arith}
use Rattle.std.specs.Int.{w128}
use Rattle.std.specs.Int.RustNames.{unsigned_abs}
use Rattle.std.proofs.lemmas.Int.{ints, to_z-of_z, fits_signed_from_abs}
use Rattle.mvt_geometry.specs.declared.shape.Point.{Point}
use Rattle.mvt_geometry.specs.Area.{cross, crosses, area2}
use Rattle.mvt_geometry.specs.Commands.{Pair, stepped, moved, positions}
use Rattle.mvt_geometry.specs.Inner.Judging.{edges}
use Rattle.mvt_geometry.specs.Shape.{last_of}

pub crosses-edges : (p : Point) (ps : List Point) (q : Point) → crosses (p ∷ ps) (ps ++ q ∷ []) ≡ edges p ps +ℤ cross (last_of p ps) q
crosses-edges p [] q = omega (arith, ints)
crosses-edges p (r ∷ ps) q = let more = crosses-edges r ps q in rw more (omega (arith, ints))

pub area2-ring : (p : Point) (ps : List Point) → area2 (p ∷ ps) ≡ edges p ps +ℤ cross (last_of p ps) p
area2-ring p ps = crosses-edges p ps p

-- from the last point round to it
pub round_area : (last p : Point) (ps : List Point) → last ≡ last_of p ps → edges last (p ∷ ps) ≡ area2 (p ∷ ps)
round_area last p ps e = let area = area2-ring p ps in rw (area, e) (omega (arith, ints))

last_at : (p : Point) (ps : List Point) (d : Point) → get_or (p ∷ ps) (length ps) d ≡ last_of p ps
last_at p [] d = refl
last_at p (q ∷ ps) d = last_at q ps d

pub whole_round : (ring : List Point) (d : Point) → 0 < length ring → edges (get_or ring (length ring - 1) d) ring ≡ area2 ring
whole_round [] d h = refl
whole_round (p ∷ ps) d h =
    let n : suc (length ps) - 1 ≡ length ps = omega arith in
    round_area (get_or (p ∷ ps) (suc (length ps) - 1) d) p ps (ap (λ m. get_or (p ∷ ps) m d) n ∙ last_at p ps d)

pub edges-push : (c : Point) (ps : List Point) (p : Point) → edges c (ps ++ p ∷ []) ≡ edges c ps +ℤ cross (last_of c ps) p
edges-push c [] p = omega (arith, ints)
edges-push c (q ∷ ps) p = let more = edges-push q ps p in rw more (omega (arith, ints))

pub last_of-push : (c : Point) (ps : List Point) (p : Point) → last_of c (ps ++ p ∷ []) ≡ p
last_of-push c [] p = refl
last_of-push c (q ∷ ps) p = last_of-push q ps p

pub last_of-append : (c : Point) (ps qs : List Point) → last_of c (ps ++ qs) ≡ last_of (last_of c ps) qs
last_of-append c [] qs = refl
last_of-append c (p ∷ ps) qs = last_of-append p ps qs

pub last_of-positions : (c : Point) (ds : List Pair) → last_of c (positions c ds) ≡ moved c ds
last_of-positions c [] = refl
last_of-positions c (d ∷ ds) = last_of-positions (stepped c d) ds

-- sums of edges fit
pub sum_fits : (a b : ℤ) (n : ℕ) → unsigned_abs a ≤ n * 2 ^ 63 → unsigned_abs b ≤ 2 ^ 63 → n < 2 ^ 64 - 1 → FitsSigned w128 (a +ℤ b)
sum_fits a b n small edge few = fits_signed_from_abs w128 (a +ℤ b) (omega (arith, ints))

pub summed : (a b r : ℤ) (n : ℕ) → unsigned_abs a ≤ n * 2 ^ 63 → unsigned_abs b ≤ 2 ^ 63 → n < 2 ^ 64 - 1 → r ≡ b
    → (to_z w128 (of_z w128 (a +ℤ r)) ≡ a +ℤ b) × (unsigned_abs (to_z w128 (of_z w128 (a +ℤ r))) ≤ (n + 1) * 2 ^ 63)
summed a b r n small edge few e =
    let is : to_z w128 (of_z w128 (a +ℤ r)) ≡ a +ℤ b = rw e (to_z-of_z w128 (a +ℤ b) (sum_fits a b n small edge few)) in
    (is, rw is (omega (arith, ints)))

pub difference_fits : (p q : ℤ) → unsigned_abs p ≤ 2 ^ 62 → unsigned_abs q ≤ 2 ^ 62
    → FitsSigned w128 (p -ℤ q) × (unsigned_abs (p -ℤ q) ≤ 2 ^ 63)
difference_fits p q small_p small_q =
    let small : unsigned_abs (p -ℤ q) ≤ 2 ^ 63 = omega (arith, ints) in
    (fits_signed_from_abs w128 (p -ℤ q) (omega (arith, small)), small)
