-- Products of differences, which don't overflow, and the last point of a ring.
use Rattle.std.proofs.Common.{arith, ◌≡◌, ℕ, zero, suc, ◌+◌, ◌≤◌, ◌^◌, ℤ, ◌-ℤ◌, ◌*ℤ◌, unsigned_abs, FitsSigned, List, [], ◌∷◌, length, get_or, refl}
use Rattle.std.specs.Int.{w128}
use Rattle.std.proofs.lemmas.Nat.{mul-le}
use Rattle.std.proofs.lemmas.Int.{ints, fits_signed_from_abs, unsigned_abs-mul}
use Rattle.mvt_geometry.specs.declared.shape.Point.{Point}
use Rattle.mvt_geometry.specs.Shape.{last_of}

pub difference_fits : (a b : ℤ) → unsigned_abs a ≤ 2 ^ 96 → unsigned_abs b ≤ 2 ^ 96 → FitsSigned w128 (a -ℤ b)
difference_fits a b small_a small_b = fits_signed_from_abs w128 (a -ℤ b) (omega (arith, ints))

pub small_product : (a b : ℤ) → unsigned_abs a ≤ 2 ^ 32 → unsigned_abs b ≤ 2 ^ 64 → unsigned_abs (a *ℤ b) ≤ 2 ^ 96
small_product a b small_a small_b = rw (unsigned_abs-mul a b) (mul-le _ _ _ _ small_a small_b)

pub last_at : (c d : Point) (points : List Point) (n : ℕ) → n + 1 ≡ length points → last_of c points ≡ get_or points n d
last_at c d [] n is = absurd (omega arith)
last_at c d (p ∷ []) zero is = refl
last_at c d (p ∷ []) (suc n) is = absurd (omega arith)
last_at c d (p ∷ q ∷ points) zero is = absurd (omega arith)
last_at c d (p ∷ q ∷ points) (suc n) is = last_at p d (q ∷ points) n (omega arith)
