-- A coordinate that leaves 16 bits.
use Rattle.std.proofs.Common.{◌≡◌, ◌≢◌, ℕ, ◌+◌, ◌*◌, ◌/◌, ◌<◌, ◌≤◌, true, ◌&&◌, ltb, leb, ℤ, unsigned_abs, sym, ap, ap₂, ◌∙◌, arith}
use Rattle.std.proofs.Math.Nat.{le-div_iff_mul-le}
use Rattle.std.proofs.lemmas.Bool.{leb-true, le-leb, lt-ltb}
use Rattle.std.proofs.lemmas.Bool.Decides.{Decides-ltb}
use Rattle.std.specs.Bool.{one_answer}
use Rattle.mvt_tile_value.specs.Lint.{is_far, scaled, widest}

-- a quotient is beyond a number exactly where the dividend isn't below the number after it times the divisor
beyond : (w x k : ℕ) → 0 < k → leb ((w + 1) * k) x ≡ ltb w (x / k)
beyond w x k some =
    one_answer (leb ((w + 1) * k) x) (ltb w (x / k))
    ((
      λ e. (let h : w + 1 ≤ x / k = (le-div_iff_mul-le some).1 (leb-true ((w + 1) * k) x e) in let g : w < x / k = omega arith in g),
      λ (q : w < x / k). le-leb ((w + 1) * k) x ((le-div_iff_mul-le some).0 (omega arith)),
    ))
    (Decides-ltb w (x / k))

pub far_is : (extent : ℕ) (z : ℤ) (least a b : ℕ) → extent ≢ 0 → least ≡ (widest z + 1) * (2 * extent) → a ≡ unsigned_abs z
    → b ≡ extent → leb least (a * 16384 + b) ≡ is_far extent z
far_is extent z least a b some is abs same =
    let above : 0 < extent = omega arith in
    let there : ltb 0 extent ≡ true = lt-ltb 0 extent above in
    ap₂ (λ m n. leb m n) is (ap₂ (λ m n. m * 16384 + n) abs same)
    ∙ beyond (widest z) (unsigned_abs z * 16384 + extent) (2 * extent) (omega arith)
    ∙ ap (λ t. t && ltb (widest z) (scaled extent z)) (sym there)
