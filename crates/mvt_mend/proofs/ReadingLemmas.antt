-- Steps of reading the parts of integers.
use Rattle.std.proofs.Common.{arith, ◌≡◌, ℕ, ◌*◌, ◌≤◌, Bool, true, false, List, [], ◌∷◌, ◌++◌, length, take, drop, slice_index, Option, Some, None, refl, ap, ◌≢◌, sym, ◌∙◌, ◌+ℤ◌, ◌≤ℤ◌, ℤ, pos, negsuc, FitsSigned, to_z, of_z, w32}
use Rattle.std.proofs.lemmas.Bool.{ne_eqb}
use Rattle.std.proofs.lemmas.Int.{ints, to_z-of_z}
use Rattle.std.specs.Option.{option_and_then}
use Rattle.mvt_wire.specs.Zigzag.{unzig}
use Rattle.mvt_geometry.specs.declared.shape.Point.{Point}
use Rattle.mvt_geometry.specs.Shape.{InRange, wide}
use Rattle.mvt_geometry.specs.Table.{is_outside}
use Rattle.mvt_mend.specs.Reading.{moved, step, path_in, Path, count_in, begins_line, has_pairs, after_part, part_in}

-- what is in range fits
pub in_range_fits : (z : ℤ) → InRange z → FitsSigned w32 z
in_range_fits z range =
    let low : negsuc 2147483646 ≤ℤ z = range.low in
    let high : z ≤ℤ pos 2147483647 = range.high in
    omega (arith, ints, low, high)

pub fits : (z : ℤ) → InRange z → to_z w32 (of_z w32 z) ≡ z
fits z range = to_z-of_z w32 z (in_range_fits z range)

-- a coordinate moved by a parameter
pub moved_refused : (c : ℤ) (n : ℕ) → n ≡ 4294967295 → None ≡ moved c n
unfolding moved
moved_refused c n e = rw e refl

pub moved_outside : (c : ℤ) (n : ℕ) → n ≢ 4294967295 → is_outside wide (c +ℤ unzig n) ≡ true → None ≡ moved c n
unfolding moved
moved_outside c n other out = rw (ne_eqb n 4294967295 other, out) refl

pub moved_inside : (c : ℤ) (n : ℕ) → n ≢ 4294967295 → is_outside wide (c +ℤ unzig n) ≡ false → Some (c +ℤ unzig n) ≡ moved c n
unfolding moved
moved_inside c n other within = rw (ne_eqb n 4294967295 other, within) refl

-- a pair
pub no_x : (c : Point) (dx dy : ℕ) → moved c.x dx ≡ None → None ≡ step c dx dy
unfolding step
no_x c dx dy none = rw none refl

pub no_y : (c : Point) (dx dy : ℕ) (x : ℤ) → moved c.x dx ≡ Some x → moved c.y dy ≡ None → None ≡ step c dx dy
unfolding step
no_y c dx dy x some none = rw (some, none) refl

pub one_step : (c : Point) (dx dy : ℕ) (x y : ℤ) → moved c.x dx ≡ Some x → moved c.y dy ≡ Some y
    → Some (record { x = x; y = y }) ≡ step c dx dy
unfolding step
one_step c dx dy x y some_x some_y = rw (some_x, some_y) refl

-- a path goes on with the pair in front
pub path_goes_on : (before : List Point) (c : Point) (ints : List ℕ) → 2 ≤ length ints
    → path_in before c ints ≡ option_and_then (λ p. path_in (before ++ p ∷ []) p (drop 2 ints)) (step c (slice_index ints 0) (slice_index ints 1))
path_goes_on before c [] two = absurd (omega arith)
path_goes_on before c (dx ∷ []) two = absurd (omega arith)
path_goes_on before c (dx ∷ dy ∷ ints) two = refl

pub path_step : (before new : List Point) (c p : Point) (ints rest : List ℕ) (whole : Option Path) → 2 ≤ length ints
    → step c (slice_index ints 0) (slice_index ints 1) ≡ Some p → new ≡ before ++ p ∷ [] → rest ≡ drop 2 ints
    → path_in before c ints ≡ whole → path_in new p rest ≡ whole
path_step before new c p ints rest whole two is pushed behind same =
    rw (pushed, behind) (sym (path_goes_on before c ints two ∙ ap (λ s. option_and_then (λ p. path_in (before ++ p ∷ []) p (drop 2 ints)) s) is) ∙ same)

-- no line or ring begins
pub no_line : (ring : Bool) (c : Point) (ints : List ℕ) → begins_line ints ≡ false → part_in ring c ints ≡ None
unfolding part_in
no_line ring c ints none = rw none

pub no_pairs : (ring : Bool) (c : Point) (ints : List ℕ) → begins_line ints ≡ true → has_pairs ring ints ≡ false → part_in ring c ints ≡ None
unfolding part_in
no_pairs ring c ints line none = rw (line, none)

pub no_first : (ring : Bool) (c : Point) (ints : List ℕ) → begins_line ints ≡ true → has_pairs ring ints ≡ true
    → step c (slice_index ints 1) (slice_index ints 2) ≡ None → part_in ring c ints ≡ None
unfolding part_in
no_first ring c ints line pairs none = rw (line, pairs, none)

pub no_path : (ring : Bool) (c : Point) (ints : List ℕ) (first : Point) → begins_line ints ≡ true → has_pairs ring ints ≡ true
    → step c (slice_index ints 1) (slice_index ints 2) ≡ Some first
    → path_in (first ∷ []) first (take (2 * count_in ints) (drop 4 ints)) ≡ None → part_in ring c ints ≡ None
unfolding part_in
no_path ring c ints first line pairs begun none = rw (line, pairs, begun, none)

pub no_end : (ring : Bool) (c : Point) (ints : List ℕ) (first : Point) (path : Path) → begins_line ints ≡ true → has_pairs ring ints ≡ true
    → step c (slice_index ints 1) (slice_index ints 2) ≡ Some first
    → path_in (first ∷ []) first (take (2 * count_in ints) (drop 4 ints)) ≡ Some path
    → after_part ring (drop (2 * count_in ints) (drop 4 ints)) ≡ None → part_in ring c ints ≡ None
unfolding part_in
no_end ring c ints first path line pairs begun goes none = rw (line, pairs, begun, goes, none)

-- one does
pub one_part : (ring : Bool) (c : Point) (ints : List ℕ) (first : Point) (path : Path) (rest : List ℕ) → begins_line ints ≡ true
    → has_pairs ring ints ≡ true → step c (slice_index ints 1) (slice_index ints 2) ≡ Some first
    → path_in (first ∷ []) first (take (2 * count_in ints) (drop 4 ints)) ≡ Some path
    → after_part ring (drop (2 * count_in ints) (drop 4 ints)) ≡ Some rest
    → part_in ring c ints ≡ Some (record { points = path.points; last = path.last; rest = rest })
unfolding part_in
one_part ring c ints first path rest line pairs begun goes ends = rw (line, pairs, begun, goes, ends)
