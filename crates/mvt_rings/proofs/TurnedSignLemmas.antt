-- The signs of rings that were told as exterior and as interior ones.
use Rattle.std.proofs.Common.{arith, ◌≡◌, ℕ, Bool, true, false, ℤ, pos, neg_ℤ, ◌+ℤ◌, ◌-ℤ◌, ◌*ℤ◌, ◌≤ℤ◌, unsigned_abs, List, [], ◌∷◌, length, refl, sym, ◌∙◌}
use Rattle.std.specs.Prelude.{if◌then◌else◌}
use Rattle.std.specs.Int.Signed.{lt_z}
use Rattle.std.proofs.lemmas.Int.{ints}
use Rattle.std.proofs.lemmas.Bool.{le-leb}
use Rattle.mvt_geometry.specs.declared.shape.Point.{Point}
use Rattle.mvt_geometry.specs.Area.{area2}
use Rattle.mvt_rings.specs.Signs.{is_positive, is_negative}
use Rattle.mvt_rings.specs.Repeats.{is_long}
use Rattle.mvt_rings.specs.Turning.{turned, as_exterior, as_interior}
use Rattle.mvt_rings.proofs.TurningLemmas.{exterior_area, interior_area, turned_area}

abbrev size : List Point → ℕ
size ring = unsigned_abs (area2 ring)

size_back : (a b : ℤ) → a ≡ neg_ℤ b → unsigned_abs a ≡ unsigned_abs b
size_back a b is = omega (arith, ints)

size_if : (b : Bool) (ring : List Point) → size (if b then turned ring else ring) ≡ size ring
size_if true ring = size_back (area2 (turned ring)) (area2 ring) (turned_area ring)
size_if false ring = refl

size_exterior : (ring : List Point) → size (as_exterior ring) ≡ size ring
unfolding as_exterior
size_exterior ring = size_if (is_negative ring) ring

pub size_interior : (ring : List Point) → size (as_interior ring) ≡ size ring
unfolding as_interior
size_interior ring = size_if (is_positive ring) ring

positive_z : (z : ℤ) → pos 0 ≤ℤ z → (unsigned_abs z ≡ 0 → ⊥) → lt_z (pos 0) z ≡ true
positive_z z low some = grind (arith, ints)

low_z : (z : ℤ) → pos 0 ≤ℤ z → lt_z z (pos 0) ≡ false
low_z z low = grind (arith, ints)

high_z : (z : ℤ) → z ≤ℤ pos 0 → lt_z (pos 0) z ≡ false
high_z z high = grind (arith, ints)

above_z : (z : ℤ) → lt_z (pos 0) z ≡ true → unsigned_abs z ≡ 0 → ⊥
above_z z above none = grind (arith, ints)

under_z : (z : ℤ) → lt_z z (pos 0) ≡ true → unsigned_abs z ≡ 0 → ⊥
under_z z under none = grind (arith, ints)

pub exterior_positive : (ring : List Point) → (unsigned_abs (area2 ring) ≡ 0 → ⊥) → is_positive (as_exterior ring) ≡ true
unfolding is_positive
exterior_positive ring some =
    positive_z (area2 (as_exterior ring)) (exterior_area ring) (λ none. some (sym (size_exterior ring) ∙ none))

pub exterior_not_negative : (ring : List Point) → is_negative (as_exterior ring) ≡ false
unfolding is_negative
exterior_not_negative ring = low_z (area2 (as_exterior ring)) (exterior_area ring)

pub interior_not_positive : (ring : List Point) → is_positive (as_interior ring) ≡ false
unfolding is_positive
interior_not_positive ring = high_z (area2 (as_interior ring)) (interior_area ring)

pub positive_solid : (ring : List Point) → is_positive (as_exterior ring) ≡ true → unsigned_abs (area2 ring) ≡ 0 → ⊥
unfolding is_positive
positive_solid ring is none = above_z (area2 (as_exterior ring)) is (size_exterior ring ∙ none)

pub negative_solid : (ring : List Point) → is_negative (as_interior ring) ≡ true → unsigned_abs (area2 ring) ≡ 0 → ⊥
unfolding is_negative
negative_solid ring is none = under_z (area2 (as_interior ring)) is (size_interior ring ∙ none)

one_point : (a : ℤ) → (a -ℤ a) +ℤ pos 0 ≡ pos 0
one_point a = omega (arith, ints)

two_points : (a b : ℤ) → (a -ℤ b) +ℤ ((b -ℤ a) +ℤ pos 0) ≡ pos 0
two_points a b = omega (arith, ints)

not_above : (z : ℤ) → z ≡ pos 0 → lt_z (pos 0) z ≡ true → ⊥
not_above z is above = grind (arith, ints)

-- a ring with area has three points
pub positive_long : (ring : List Point) → is_positive ring ≡ true → is_long 3 ring ≡ true
unfolding is_positive
positive_long [] is = absurd (not_above (pos 0) refl is)
positive_long (p ∷ []) is = absurd (not_above _ (one_point (p.x *ℤ p.y)) is)
positive_long (p ∷ q ∷ []) is = absurd (not_above _ (two_points (p.x *ℤ q.y) (q.x *ℤ p.y)) is)
positive_long (p ∷ q ∷ r ∷ more) is = le-leb 3 (length (p ∷ q ∷ r ∷ more)) (omega arith)
