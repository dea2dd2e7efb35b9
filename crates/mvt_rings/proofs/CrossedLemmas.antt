-- An edge is crossed both ways, and none from a point to itself.
use Rattle.std.proofs.Common.{arith, ◌≡◌, ℕ, ◌+◌, ◌*◌, Bool, true, false, not, ◌&&◌, ℤ, pos, neg_ℤ, ◌-ℤ◌, ◌*ℤ◌, refl, ap, ap₂, ◌∙◌}
use Rattle.std.specs.Prelude.{if◌then◌else◌}
use Rattle.std.specs.Int.Signed.{lt_z}
use Rattle.std.proofs.lemmas.Int.{ints}
use borrow.Author.Differences.{up, down}
use Rattle.mvt_geometry.specs.declared.shape.Point.{Point}
use Rattle.mvt_rings.specs.declared.nesting.Spot.{Spot}
use Rattle.mvt_rings.specs.declared.nesting.Edge.{Edge}
use Rattle.mvt_rings.specs.Nesting.{in_parts, is_crossed, side}

-- what a difference is, in natural numbers
parted : (s t : ℤ) → up (s -ℤ t) + (down s + up t) ≡ down (s -ℤ t) + (up s + down t)
parted s t = omega (arith, ints)

multiplied : (u v : ℤ) → up (u *ℤ v) + (up u * down v + down u * up v) ≡ down (u *ℤ v) + (up u * up v + down u * down v)
multiplied u v = omega (arith, ints)

turned_round : (u : ℤ) → up (neg_ℤ u) + up u ≡ down (neg_ℤ u) + down u
turned_round u = omega (arith, ints)

pub mul-sub : (a s t : ℤ) → a *ℤ (s -ℤ t) ≡ (a *ℤ s) -ℤ (a *ℤ t)
mul-sub a s t = omega (arith, ints, ap (λ n. up a * n) (parted s t), ap (λ n. down a * n) (parted s t))

neg-mul : (u s : ℤ) → neg_ℤ u *ℤ s ≡ neg_ℤ (u *ℤ s)
neg-mul u s = omega (arith, ints, ap (λ n. up s * n) (turned_round u), ap (λ n. down s * n) (turned_round u))

mul_swap : (u k v : ℤ) → u *ℤ (k *ℤ v) ≡ v *ℤ (k *ℤ u)
mul_swap u k v =
    omega (
      arith,
      ints,
      ap (λ n. up u * n) (multiplied k v),
      ap (λ n. down u * n) (multiplied k v),
      ap (λ n. up v * n) (multiplied k u),
      ap (λ n. down v * n) (multiplied k u),
    )

linear : (a b c d e f : ℤ) → a ≡ neg_ℤ (b -ℤ c) → d ≡ neg_ℤ (e -ℤ f) → c ≡ f → a -ℤ d ≡ neg_ℤ (b -ℤ e)
linear a b c d e f p q r = omega (arith, ints)

back_product : (u v s t k : ℤ) → (neg_ℤ u *ℤ (s -ℤ (k *ℤ v))) -ℤ (neg_ℤ v *ℤ (t -ℤ (k *ℤ u))) ≡ neg_ℤ ((u *ℤ s) -ℤ (v *ℤ t))
back_product u v s t k =
    linear _ (u *ℤ s) (u *ℤ (k *ℤ v)) _ (v *ℤ t) (v *ℤ (k *ℤ u))
    (neg-mul u (s -ℤ (k *ℤ v)) ∙ ap neg_ℤ (mul-sub u s (k *ℤ v)))
    (neg-mul v (t -ℤ (k *ℤ u)) ∙ ap neg_ℤ (mul-sub v t (k *ℤ u))) (mul_swap u k v)

opposite : (a b : ℤ) → a -ℤ b ≡ neg_ℤ (b -ℤ a)
opposite a b = omega (arith, ints)

from_other : (p k a b : ℤ) → p -ℤ (k *ℤ b) ≡ (p -ℤ (k *ℤ a)) -ℤ (k *ℤ (b -ℤ a))
from_other p k a b = omega (arith, ints, mul-sub k b a)

side_product : (ax ay bx by px py k : ℤ)
    → (((ax -ℤ bx) *ℤ (py -ℤ (k *ℤ by))) -ℤ ((ay -ℤ by) *ℤ (px -ℤ (k *ℤ bx))))
    ≡ neg_ℤ (((bx -ℤ ax) *ℤ (py -ℤ (k *ℤ ay))) -ℤ ((by -ℤ ay) *ℤ (px -ℤ (k *ℤ ax))))
side_product ax ay bx by px py k =
    ap₂ (λ a b. a -ℤ b) (ap₂ (λ a b. a *ℤ b) (opposite ax bx) (from_other py k ay by))
    (ap₂ (λ a b. a *ℤ b) (opposite ay by) (from_other px k ax bx))
    ∙ back_product (bx -ℤ ax) (by -ℤ ay) (py -ℤ (k *ℤ ay)) (px -ℤ (k *ℤ ax)) k

crossed_cases : (a b l r : Bool) → (if a then not b && l else b && r) ≡ (if b then not a && r else a && l)
crossed_cases true true l r = refl
crossed_cases true false l r = refl
crossed_cases false true l r = refl
crossed_cases false false l r = refl

below : (z : ℤ) → lt_z (neg_ℤ z) (pos 0) ≡ lt_z (pos 0) z
below z = grind (arith, ints)

above : (z : ℤ) → lt_z (pos 0) (neg_ℤ z) ≡ lt_z z (pos 0)
above z = grind (arith, ints)

-- the edge from one point to another
abbrev pub edge : Point → Point → Edge
edge a b = record { from = a; to = b }

side_back : (parts : ℕ) (p : Spot) (a b : Point) → side parts p (edge b a) ≡ neg_ℤ (side parts p (edge a b))
unfolding side
side_back parts p a b = side_product a.x a.y b.x b.y p.x p.y (pos parts)

pub crossed_back : (parts : ℕ) (p : Spot) (a b : Point) → is_crossed parts p (edge a b) ≡ is_crossed parts p (edge b a)
unfolding is_crossed
crossed_back parts p a b =
    let forth = side parts p (edge a b) in
    let back = side_back parts p a b in
    rw back
    (rw (below forth, above forth)
    (crossed_cases (lt_z p.y (in_parts parts a.y)) (lt_z p.y (in_parts parts b.y)) (lt_z forth (pos 0)) (lt_z (pos 0) forth)))

never : (a l r : Bool) → (if a then not a && l else a && r) ≡ false
never true l r = refl
never false l r = refl

pub crossed_still : (parts : ℕ) (p : Spot) (a : Point) → is_crossed parts p (edge a a) ≡ false
unfolding is_crossed
crossed_still parts p a =
    never (lt_z p.y (in_parts parts a.y)) (lt_z (side parts p (edge a a)) (pos 0)) (lt_z (pos 0) (side parts p (edge a a)))
