-- What edges say of the spots of a box, and of those a unit around it, that they come near nowhere.
use Rattle.std.proofs.Common.{arith, ◌≡◌, Bool, true, false, not, ◌&&◌, ℤ, pos, ◌+ℤ◌, ◌-ℤ◌, ◌*ℤ◌, ◌≤ℤ◌, ◌<ℤ◌, refl, subst}
use Rattle.std.specs.Prelude.{if◌then◌else◌}
use Rattle.std.specs.Ordering.{int_eq}
use Rattle.std.specs.Int.Signed.{lt_z}
use Rattle.std.proofs.lemmas.Int.{ints}
use Rattle.std.proofs.lemmas.Bool.{and_left, and_right}
use Rattle.std.proofs.Math.IntN.{*ℤ_comm}
use Rattle.mvt_rings.specs.declared.boxes.Bounds.{Bounds}
use Rattle.mvt_rings.specs.declared.nesting.Spot.{Spot}
use Rattle.mvt_rings.specs.declared.nesting.Edge.{Edge}
use Rattle.mvt_rings.specs.Nesting.{in_parts, is_between, is_crossed, is_on, side}
use Rattle.mvt_rings.specs.Rings.{differ}
use Rattle.mvt_rings.specs.Clear.{is_left_of, is_right_of, Says}
use Rattle.mvt_rings.proofs.BandLemmas.{between_over, between_under, over_both, twice, under_both}
use Rattle.mvt_rings.proofs.SidesLemmas.{mul_down, mul_over, mul_up, twice_side}

-- how far a spot is to the right of what is left of a box, and to the left of what is right of it
beyond : (f t x : ℤ) → f <ℤ t → (pos 2 *ℤ t) ≤ℤ x → pos 0 <ℤ (x -ℤ (pos 2 *ℤ f))
beyond f t x under low = rw twice (test f t x under (rw twice at low))
  where
    test : (f t x : ℤ) → f <ℤ t → (t +ℤ t) ≤ℤ x → pos 0 <ℤ (x -ℤ (f +ℤ f))
    test f t x under low = omega (arith, ints)

before : (f t x : ℤ) → t <ℤ f → x ≤ℤ (pos 2 *ℤ t) → (x -ℤ (pos 2 *ℤ f)) <ℤ pos 0
before f t x over high = rw twice (test f t x over (rw twice at high))
  where
    test : (f t x : ℤ) → t <ℤ f → x ≤ℤ (t +ℤ t) → (x -ℤ (f +ℤ f)) <ℤ pos 0
    test f t x over high = omega (arith, ints)

weak : (z : ℤ) → pos 0 <ℤ z → pos 0 ≤ℤ z
weak z is = omega (arith, ints)

above : (y f : ℤ) → lt_z y f ≡ true → (y -ℤ f) <ℤ pos 0
above y f is = grind (arith, ints)

not_above : (y f : ℤ) → lt_z y f ≡ false → pos 0 ≤ℤ (y -ℤ f)
not_above y f is = grind (arith, ints)

weakly : (z : ℤ) → z <ℤ pos 0 → z ≤ℤ pos 0
weakly z is = omega (arith, ints)

low_z : (z : ℤ) → pos 0 ≤ℤ z → lt_z z (pos 0) ≡ false
low_z z low = grind (arith, ints)

high_z : (z : ℤ) → z ≤ℤ pos 0 → lt_z (pos 0) z ≡ false
high_z z high = grind (arith, ints)

under_z : (z : ℤ) → z <ℤ pos 0 → lt_z z (pos 0) ≡ true
under_z z under = grind (arith, ints)

over_z : (z : ℤ) → pos 0 <ℤ z → lt_z (pos 0) z ≡ true
over_z z over = grind (arith, ints)

sum_up : (s m n : ℤ) → s +ℤ s ≡ m -ℤ n → pos 0 ≤ℤ m → n ≤ℤ pos 0 → lt_z s (pos 0) ≡ false
sum_up s m n e p q = low_z s (omega (arith, ints))

sum_down : (s m n : ℤ) → s +ℤ s ≡ m -ℤ n → m ≤ℤ pos 0 → pos 0 ≤ℤ n → lt_z (pos 0) s ≡ false
sum_down s m n e p q = high_z s (omega (arith, ints))

sum_under : (s m n : ℤ) → s +ℤ s ≡ m -ℤ n → m ≤ℤ pos 0 → pos 0 <ℤ n → lt_z s (pos 0) ≡ true
sum_under s m n e p q = under_z s (omega (arith, ints))

sum_over : (s m n : ℤ) → s +ℤ s ≡ m -ℤ n → pos 0 <ℤ m → n ≤ℤ pos 0 → lt_z (pos 0) s ≡ true
sum_over s m n e p q = over_z s (omega (arith, ints))

turned_down : (x y : ℤ) → pos 0 ≤ℤ x → y ≤ℤ pos 0 → (x *ℤ y) ≤ℤ pos 0
turned_down x y p q = subst (λ (z : ℤ). z ≤ℤ pos 0) (*ℤ_comm y x) (mul_down y x q p)

-- an edge with both ends to one side of a spot: whether it is crossed says the rows of its ends
if_left : (c d l r : Bool) → (c ≡ true → d ≡ false → l ≡ false) → (c ≡ false → d ≡ true → r ≡ false)
    → (if c then not d && l else d && r) ≡ false
if_left true true l r p q = refl
if_left true false l r p q = p refl refl
if_left false true l r p q = q refl refl
if_left false false l r p q = refl

if_right : (c d l r : Bool) → (c ≡ true → d ≡ false → l ≡ true) → (c ≡ false → d ≡ true → r ≡ true)
    → (if c then not d && l else d && r) ≡ differ c d
if_right true true l r p q = refl
if_right true false l r p q = p refl refl
if_right false true l r p q = q refl refl
if_right false false l r p q = refl

beside_on : (p : Spot) (e : Edge) → is_between p.x (in_parts 2 e.from.x) (in_parts 2 e.to.x) ≡ false → is_on 2 p e ≡ false
unfolding is_on
beside_on p e apart =
    and_left _ (int_eq (side 2 p e) (pos 0)) (and_right (is_between p.y (in_parts 2 e.from.y) (in_parts 2 e.to.y)) _ apart)

lt_from : (a b : ℤ) → pos 0 <ℤ (b -ℤ a) → lt_z a b ≡ true
lt_from a b is = grind (arith, ints)

lt_back : (a b : ℤ) → (a -ℤ b) <ℤ pos 0 → lt_z a b ≡ true
lt_back a b is = grind (arith, ints)

pub left_says : (box : Bounds) (p : Spot) (e : Edge) → in_parts 2 (box.left -ℤ pos 1) ≤ℤ p.x → is_left_of box e ≡ true → Says p false e
unfolding is_left_of is_between is_crossed
left_says box p e low is =
    let under = under_both e.from.x e.to.x (box.left -ℤ pos 1) is in
    let a = beyond e.from.x (box.left -ℤ pos 1) p.x under.0 low in
    let b = beyond e.to.x (box.left -ℤ pos 1) p.x under.1 low in
    record {
      on =
          beside_on p e
          (between_under (lt_z (in_parts 2 e.from.x) (in_parts 2 e.to.x)) p.x (in_parts 2 e.from.x) (in_parts 2 e.to.x)
          (lt_from _ p.x a) (lt_from _ p.x b));
      crosses =
          if_left (lt_z p.y (in_parts 2 e.from.y)) (lt_z p.y (in_parts 2 e.to.y)) (lt_z (side 2 p e) (pos 0))
          (lt_z (pos 0) (side 2 p e))
          (λ up down. sum_up (side 2 p e) _ _ (twice_side p e) (mul_up _ _ (weak _ a) (not_above p.y _ down))
          (mul_down _ _ (weakly _ (above p.y _ up)) (weak _ b)))
          (λ down up. sum_down (side 2 p e) _ _ (twice_side p e) (turned_down _ _ (weak _ a) (weakly _ (above p.y _ up)))
          (mul_up _ _ (not_above p.y _ down) (weak _ b)));
    }

pub right_says : (box : Bounds) (p : Spot) (e : Edge) → p.x ≤ℤ in_parts 2 (box.right +ℤ pos 1) → is_right_of box e ≡ true
    → Says p (differ (lt_z p.y (in_parts 2 e.from.y)) (lt_z p.y (in_parts 2 e.to.y))) e
unfolding is_right_of is_between is_crossed
right_says box p e high is =
    let over = over_both e.from.x e.to.x box.right is in
    let a = before e.from.x (box.right +ℤ pos 1) p.x over.0 high in
    let b = before e.to.x (box.right +ℤ pos 1) p.x over.1 high in
    record {
      on =
          beside_on p e
          (between_over (lt_z (in_parts 2 e.from.x) (in_parts 2 e.to.x)) p.x (in_parts 2 e.from.x) (in_parts 2 e.to.x)
          (lt_back p.x _ a) (lt_back p.x _ b));
      crosses =
          if_right (lt_z p.y (in_parts 2 e.from.y)) (lt_z p.y (in_parts 2 e.to.y)) (lt_z (side 2 p e) (pos 0))
          (lt_z (pos 0) (side 2 p e))
          (λ up down. sum_under (side 2 p e) _ _ (twice_side p e) (mul_down _ _ (weakly _ a) (not_above p.y _ down))
          (mul_over _ _ (above p.y _ up) b))
          (λ down up. sum_over (side 2 p e) _ _ (twice_side p e) (mul_over _ _ a (above p.y _ up))
          (turned_down _ _ (not_above p.y _ down) (weakly _ b)));
    }
