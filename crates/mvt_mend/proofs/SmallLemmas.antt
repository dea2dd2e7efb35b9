-- What stands in place of integers has 32 bits, and so draws a geometry.
use Rattle.std.proofs.Common.{arith, ◌≡◌, ℕ, ◌+◌, ◌*◌, ◌^◌, ◌<◌, ◌&&◌, not, nat_lt, nat_le, Bool, true, false, ℤ, pos, negsuc, ◌-ℤ◌, ◌≤ℤ◌, List, [], ◌∷◌, ◌++◌, length, Some, sym, subst, ◌∙◌}
use Rattle.std.proofs.lemmas.Int.{ints, by_lt_z}
use Rattle.std.proofs.lemmas.Bool.{leb-true}
use Rattle.std.specs.List.{AllByRecursion}
use Rattle.mvt_wire.specs.Zigzag.{zig}
use Rattle.mvt_geometry.specs.declared.shape.Point.{Point}
use Rattle.mvt_geometry.specs.declared.shape.Kind.{Kind}
use Rattle.mvt_geometry.specs.declared.shape.Geometry.{Geometry}
use Rattle.mvt_geometry.specs.Shape.{InRange, wide, origin, last_of}
use Rattle.mvt_geometry.specs.Table.{is_outside}
use Rattle.mvt_geometry.specs.Drawing.{Draws, path_from, stroke, strokes}
use Rattle.mvt_geometry.proofs.GeometryLaws.{faultless_draws}
use Rattle.mvt_mend.specs.Drawing.{closing, is_near, are_near, can_draw, can_draw_all}
use Rattle.mvt_mend.specs.Geometry.{mended_geometry, points_of}
use Rattle.mvt_mend.specs.Spelling.{has_rings}
use Rattle.mvt_mend.proofs.SpellingLemmas.{and_true}
use Rattle.mvt_mend.proofs.ReadLemmas.{not_true}
use Rattle.mvt_mend.proofs.OnceLemmas.{mended_is_faultless}
use Rattle.mvt_mend.proofs.MendedLemmas.{mended_comes_from_spelled}

AreSmall : List ℕ → Type 0
AreSmall ints = AllByRecursion (λ n. n < 2 ^ 32) ints

true_false : {P : Type 0} → true ≡ false → P
true_false h = absurd (cc)

-- a number that isn't out of range is in range
pub inside_is : (z : ℤ) → is_outside wide z ≡ false → InRange z
inside_is z e =
    by_lt_z z (negsuc 2147483646)
    (λ low. let yes : is_outside wide z ≡ true = grind (arith, ints) in true_false (sym yes ∙ e))
    (λ low.
    by_lt_z (pos 2147483647) z
    (λ high. let yes : is_outside wide z ≡ true = grind (arith, ints) in true_false (sym yes ∙ e))
    (λ high. record { low = low; high = high }))

code_small : (z : ℤ) → negsuc 2147483646 ≤ℤ z → z ≤ℤ pos 2147483647 → zig z < 2 ^ 32
code_small (pos n) low high = omega (arith, ints, high)
code_small (negsuc n) low high = omega (arith, ints, low)

parameter_small : (z : ℤ) → is_outside wide z ≡ false → zig z < 2 ^ 32
parameter_small z within = let range = inside_is z within in code_small z range.low range.high

small_append : (xs ys : List ℕ) → AreSmall xs → AreSmall ys → AreSmall (xs ++ ys)
unfolding AreSmall
small_append [] ys front back = back
small_append (x ∷ xs) ys front back = (front.0, small_append xs ys front.1 back)

pair_small : (c p : Point) → is_near c p ≡ true → (zig (p.x -ℤ c.x) < 2 ^ 32) × (zig (p.y -ℤ c.y) < 2 ^ 32)
unfolding is_near
pair_small c p near =
    let tests = and_true (not (is_outside wide (p.x -ℤ c.x))) (not (is_outside wide (p.y -ℤ c.y))) near in
    (parameter_small (p.x -ℤ c.x) (not_true _ tests.0), parameter_small (p.y -ℤ c.y) (not_true _ tests.1))

path_small : (c : Point) (points : List Point) → are_near c points ≡ true → AreSmall (path_from c points)
unfolding AreSmall
path_small c [] near = tt
path_small c (p ∷ points) near =
    let tests = and_true (is_near c p) (are_near p points) near in
    let pair = pair_small c p tests.0 in (pair.0, (pair.1, path_small p points tests.1))

closing_small : (ring : Bool) → AreSmall (closing ring)
unfolding AreSmall
closing_small false = tt
closing_small true = (omega arith, tt)

part_small : (ring : Bool) (c p : Point) (ps : List Point) → can_draw c (p ∷ ps) ≡ true → AreSmall (stroke (closing ring) c (p ∷ ps))
unfolding AreSmall
part_small ring c p ps can =
    let tests = and_true (nat_lt 0 (length (p ∷ ps)) && nat_le (length (p ∷ ps)) 536870912) (are_near c (p ∷ ps)) can in
    let few = leb-true (length (p ∷ ps)) 536870912 (and_true (nat_lt 0 (length (p ∷ ps))) _ tests.0).1 in
    let near = and_true (is_near c p) (are_near p ps) tests.1 in
    let pair = pair_small c p near.0 in
    let line : 2 + 8 * length ps < 2 ^ 32 = omega (arith, few) in
    (omega arith, (pair.0, (pair.1, (line, small_append (path_from p ps) (closing ring) (path_small p ps near.1) (closing_small ring)))))

parts_small : (ring : Bool) (c : Point) (parts : List (List Point)) → can_draw_all c parts ≡ true → AreSmall (strokes (closing ring) c parts)
unfolding AreSmall
parts_small ring c [] can = tt
parts_small ring c ([] ∷ parts) can = absurd (cc)
parts_small ring c ((p ∷ ps) ∷ parts) can =
    let tests = and_true (can_draw c (p ∷ ps)) (can_draw_all (last_of p ps) parts) can in
    small_append (stroke (closing ring) c (p ∷ ps)) (strokes (closing ring) (last_of p ps) parts) (part_small ring c p ps tests.0)
    (parts_small ring (last_of p ps) parts tests.1)

pub mended_draws : (kind : Kind) (ints : List ℕ) (n : ℕ) (new : List ℕ) → mended_geometry kind ints ≡ Some (n ∷ new)
    → (g : Geometry) × Draws kind (n ∷ new) g
unfolding AreSmall
mended_draws kind ints n new h =
    let is = mended_comes_from_spelled kind ints (n ∷ new) h in
    let small : AreSmall (n ∷ new) =
    subst (λ xs. AreSmall xs) (sym is.draws) (parts_small (has_rings kind) origin (points_of is.kept) is.drawable) in
    faultless_draws kind (n ∷ new) small (mended_is_faultless kind ints n new h)
