use Rattle.std.proofs.Common.{arith, ◌≡◌, ◌≤◌, ◌*ℤ◌, ℤ, ◌^◌, unsigned_abs, FitsSigned, ◌∙◌, to_z, of_z, w32, w64}
use Rattle.std.proofs.lemmas.Nat.{mul-le}
use Rattle.std.proofs.lemmas.Int.{ints, to_z-of_z, fits_signed_from_abs, fits_signed_mul, unsigned_abs-mul}
use Rattle.mvt_geometry.proofs.area.product.Goals as goal

-- a number of 32 bits is the same in 64
same : (a p : ℤ) → FitsSigned w32 a → unsigned_abs a ≤ 2 ^ 31 → p ≡ to_z w32 (of_z w32 a) → to_z w64 (of_z w64 p) ≡ a
same a p fits small is =
    let same_p : p ≡ a = is ∙ to_z-of_z w32 a fits in
    rw same_p (to_z-of_z w64 a (fits_signed_from_abs w64 a (omega (arith, small))))

-- and a product of two has 62
small_product : (a b : ℤ) → unsigned_abs a ≤ 2 ^ 31 → unsigned_abs b ≤ 2 ^ 31 → unsigned_abs (a *ℤ b) ≤ 2 ^ 62
small_product a b small_a small_b = rw (unsigned_abs-mul a b) (mul-le _ _ _ _ small_a small_b)

pub overflow_mul-result : goal.overflow_mul-result
overflow_mul-result c =
    let small_a : unsigned_abs c.args.a ≤ 2 ^ 31 = omega (arith, ints) in
    let small_b : unsigned_abs c.args.b ≤ 2 ^ 31 = omega (arith, ints) in
    rw (same c.args.a c.from.result c.ranges.a small_a c.from.ensures, same c.args.b c.from-2.result c.ranges.b small_b c.from-2.ensures)
    (fits_signed_mul w64 c.args.a c.args.b (2 ^ 31) (2 ^ 31) small_a small_b (omega arith))

pub returns-clause-value : goal.returns-clause-value
returns-clause-value c =
    let small_a : unsigned_abs c.args.a ≤ 2 ^ 31 = omega (arith, ints) in
    let small_b : unsigned_abs c.args.b ≤ 2 ^ 31 = omega (arith, ints) in
    rw (same c.args.a c.from.result c.ranges.a small_a c.from.ensures, same c.args.b c.from-2.result c.ranges.b small_b c.from-2.ensures)
    (to_z-of_z w64 (c.args.a *ℤ c.args.b) (fits_signed_mul w64 c.args.a c.args.b (2 ^ 31) (2 ^ 31) small_a small_b (omega arith)))

pub returns-clause-small : goal.returns-clause-small
returns-clause-small c =
    rw (returns-clause-value c) (small_product c.args.a c.args.b (omega (arith, ints)) (omega (arith, ints)))
