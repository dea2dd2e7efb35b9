-- On which side of an edge a spot lies that both its ends have to their right, or to their left.
use Rattle.std.proofs.Common.{arith, ◌≡◌, ◌+◌, ◌*◌, ℤ, pos, negsuc, ◌+ℤ◌, ◌-ℤ◌, ◌*ℤ◌, ◌≤ℤ◌, ◌<ℤ◌, zero, suc, sym, ap, ap₂, subst, ◌∙◌}
use Rattle.std.proofs.lemmas.Int.{ints}
use Rattle.std.proofs.Math.IntN.{pos-*ℤ-pos, negsuc-*ℤ-pos, negsuc-*ℤ-negsuc, *ℤ_comm}
use borrow.Author.Differences.{up, down}
use Rattle.mvt_rings.specs.declared.nesting.Spot.{Spot}
use Rattle.mvt_rings.specs.declared.nesting.Edge.{Edge}
use Rattle.mvt_rings.specs.Nesting.{in_parts, side}
use Rattle.mvt_rings.proofs.CrossedLemmas.{mul-sub}

-- signs of products
pub mul_up : (x y : ℤ) → pos 0 ≤ℤ x → pos 0 ≤ℤ y → pos 0 ≤ℤ (x *ℤ y)
mul_up (pos m) (pos n) p q = subst (λ (z : ℤ). pos 0 ≤ℤ z) (sym (pos-*ℤ-pos m n)) (omega (arith, ints))
mul_up (pos m) (negsuc n) p q = absurd (omega (arith, ints))
mul_up (negsuc m) y p q = absurd (omega (arith, ints))

pub mul_down : (x y : ℤ) → x ≤ℤ pos 0 → pos 0 ≤ℤ y → (x *ℤ y) ≤ℤ pos 0
mul_down (pos zero) (pos n) p q = subst (λ (z : ℤ). z ≤ℤ pos 0) (sym (pos-*ℤ-pos zero n)) (omega (arith, ints))
mul_down (pos (suc m)) (pos n) p q = absurd (omega (arith, ints))
mul_down (negsuc m) (pos n) p q = subst (λ (z : ℤ). z ≤ℤ pos 0) (sym (negsuc-*ℤ-pos m n)) (omega (arith, ints))
mul_down x (negsuc n) p q = absurd (omega (arith, ints))

pub mul_over : (x y : ℤ) → x <ℤ pos 0 → y <ℤ pos 0 → pos 0 <ℤ (x *ℤ y)
mul_over (negsuc m) (negsuc n) p q = subst (λ (z : ℤ). pos 0 <ℤ z) (sym (negsuc-*ℤ-negsuc m n)) (omega (arith, ints))
mul_over (negsuc m) (pos n) p q = absurd (omega (arith, ints))
mul_over (pos m) y p q = absurd (omega (arith, ints))

added : (s t : ℤ) → up (s +ℤ t) + (down s + down t) ≡ down (s +ℤ t) + (up s + up t)
added s t = omega (arith, ints)

mul-add : (a s t : ℤ) → a *ℤ (s +ℤ t) ≡ (a *ℤ s) +ℤ (a *ℤ t)
mul-add a s t = omega (arith, ints, ap (λ n. up a * n) (added s t), ap (λ n. down a * n) (added s t))

-- twice a product of a difference that is half of another
half_product : (d a b u : ℤ) → d +ℤ d ≡ a -ℤ b → (d *ℤ u) +ℤ (d *ℤ u) ≡ (u *ℤ a) -ℤ (u *ℤ b)
half_product d a b u half =
    ap₂ (λ s t. s +ℤ t) (*ℤ_comm d u) (*ℤ_comm d u) ∙ (sym (mul-add u d d) ∙ (ap (λ z. u *ℤ z) half ∙ mul-sub u a b))

half : (p q r : ℤ) → (q -ℤ r) +ℤ (q -ℤ r) ≡ (p -ℤ in_parts 2 r) -ℤ (p -ℤ in_parts 2 q)
half p q r = omega (arith, ints)

crossed_products : (s t a b c d e f : ℤ) → s +ℤ s ≡ a -ℤ b → t +ℤ t ≡ c -ℤ d → a ≡ c → (s -ℤ t) +ℤ (s -ℤ t) ≡ d -ℤ b
crossed_products s t a b c d e f p q r = omega (arith, ints)

-- twice the side of a spot, by how far the ends of the edge are from it
pub twice_side : (p : Spot) (e : Edge)
    → side 2 p e +ℤ side 2 p e
    ≡ ((p.x -ℤ in_parts 2 e.from.x) *ℤ (p.y -ℤ in_parts 2 e.to.y)) -ℤ ((p.y -ℤ in_parts 2 e.from.y) *ℤ (p.x -ℤ in_parts 2 e.to.x))
unfolding side
twice_side p e =
    let a : ℤ = p.x -ℤ in_parts 2 e.from.x in
    let b : ℤ = p.x -ℤ in_parts 2 e.to.x in
    let u : ℤ = p.y -ℤ in_parts 2 e.from.y in
    let v : ℤ = p.y -ℤ in_parts 2 e.to.y in
    crossed_products ((e.to.x -ℤ e.from.x) *ℤ u) ((e.to.y -ℤ e.from.y) *ℤ a) (u *ℤ a) (u *ℤ b) (a *ℤ u) (a *ℤ v) a b
    (half_product (e.to.x -ℤ e.from.x) a b u (half p.x e.to.x e.from.x))
    (half_product (e.to.y -ℤ e.from.y) u v a (half p.y e.to.y e.from.y)) (*ℤ_comm u a)
