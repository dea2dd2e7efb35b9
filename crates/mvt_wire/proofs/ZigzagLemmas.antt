-- Zigzag codes and their numbers.
use Rattle.std.proofs.Common.{eqb, ne_eqb, ◌≡◌, ◌≢◌, ℕ, ◌+◌, ◌*◌, ◌/◌, ◌%◌, false, ℤ, pos, negsuc, ◌⊎◌, inl, inr, refl, arith}
use Rattle.std.proofs.lemmas.Bool.{cases_eq}
use Rattle.mvt_wire.specs.Zigzag.{zig, unzig}

pub unzig-zig : (z : ℤ) → unzig (zig z) ≡ z
unzig-zig (pos n) = let e : (2 * n) % 2 ≡ 0 = omega arith in let h : (2 * n) / 2 ≡ n = omega arith in rw (e, h) refl
unzig-zig (negsuc n) = let e : (2 * n + 1) % 2 ≡ 1 = omega arith in let h : (2 * n + 1) / 2 ≡ n = omega arith in rw (e, h) refl

pub zig-unzig : (n : ℕ) → zig (unzig n) ≡ n
zig-unzig n = by_parity (cases_eq (n % 2) 0)
  where
    by_parity : (n % 2 ≡ 0) ⊎ (n % 2 ≢ 0) → zig (unzig n) ≡ n
    by_parity (inl e) = let h : 2 * (n / 2) ≡ n = omega (arith, e) in rw e h
    by_parity (inr o) = let t : eqb (n % 2) 0 ≡ false = ne_eqb (n % 2) 0 o in let h : 2 * (n / 2) + 1 ≡ n = omega (arith, o) in rw t h
