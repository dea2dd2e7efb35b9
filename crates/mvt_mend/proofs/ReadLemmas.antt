-- Integers that spell lines or rings are read as these.
use Rattle.std.proofs.Common.{arith, ◌≡◌, ◌≢◌, ℕ, zero, suc, ◌+◌, ◌*◌, ◌/◌, ◌%◌, ◌<◌, ◌≤◌, ◌&&◌, not, Bool, true, false, ℤ, pos, negsuc, ◌+ℤ◌, ◌-ℤ◌, ◌≤ℤ◌, List, [], ◌∷◌, ◌++◌, length, take, drop, Some, refl, sym, ap, ◌∙◌, append_assoc}
use Rattle.std.specs.Option.{option_and_then}
use Rattle.std.proofs.lemmas.List.{append-nil, length-append}
use Rattle.std.proofs.lemmas.Int.{ints}
use Rattle.std.proofs.lemmas.Bool.{eq-eqb, le-leb}
use Rattle.std.specs.List.{AllByRecursion}
use Rattle.mvt_wire.specs.Zigzag.{zig, unzig}
use Rattle.mvt_wire.proofs.WireLaws.{zigzag_function_number}
use Rattle.mvt_geometry.specs.declared.shape.Point.{Point}
use Rattle.mvt_geometry.specs.Shape.{InRange, IsPlace, wide, origin, last_of}
use Rattle.mvt_geometry.specs.Table.{is_outside}
use Rattle.mvt_geometry.specs.Drawing.{path_from, stroke, strokes}
use Rattle.mvt_mend.specs.Reading.{moved, step, Path, path_in, least_of, begins_line, has_pairs, after_part, part_in, parts_after, parts_in}
use Rattle.mvt_mend.specs.Drawing.{closing, is_near, are_near, can_draw, can_draw_all}
use Rattle.mvt_mend.proofs.ReadingLemmas.{moved_inside, one_step, one_part}
use Rattle.mvt_mend.specs.Spelling.{HasForm}
use Rattle.std.proofs.Math.Seq.{take-append_seam, drop-append_seam}
use Rattle.mvt_mend.proofs.SpellingLemmas.{and_true, length_path}

-- a number in range isn't out of range
pub inside : (z : ℤ) → InRange z → is_outside wide z ≡ false
inside z range =
    let low : negsuc 2147483646 ≤ℤ z = range.low in
    let high : z ≤ℤ pos 2147483647 = range.high in grind (arith, ints)

pub not_true : (b : Bool) → not b ≡ true → b ≡ false
not_true true h = absurd (cc)
not_true false h = refl

-- a code of a number in range is a parameter
pub not_refused : (z : ℤ) → is_outside wide z ≡ false → zig z ≢ 4294967295
not_refused (pos n) within e = absurd (omega arith)
not_refused (negsuc n) within e =
    let is : n ≡ 2147483647 = omega arith in
    let out : is_outside wide (negsuc n) ≡ true = rw is refl in absurd (cc)

back : (a b : ℤ) → a +ℤ (b -ℤ a) ≡ b
back a b = omega (arith, ints)

moved_back : (c z : ℤ) → is_outside wide (z -ℤ c) ≡ false → is_outside wide z ≡ false → moved c (zig (z -ℤ c)) ≡ Some z
moved_back c z near within =
    let there : c +ℤ unzig (zig (z -ℤ c)) ≡ z = ap (λ d. c +ℤ d) (zigzag_function_number (z -ℤ c)) ∙ back c z in
    sym (moved_inside c (zig (z -ℤ c)) (not_refused (z -ℤ c) near) (ap (λ y. is_outside wide y) there ∙ within)) ∙ ap Some there

-- a pair that leads to a point
step_back : (c p : Point) → is_near c p ≡ true → IsPlace p → step c (zig (p.x -ℤ c.x)) (zig (p.y -ℤ c.y)) ≡ Some p
unfolding is_near
step_back c p near place =
    let tests = and_true (not (is_outside wide (p.x -ℤ c.x))) (not (is_outside wide (p.y -ℤ c.y))) near in
    sym (one_step c _ _ p.x p.y (moved_back c.x p.x (not_true _ tests.0) (inside p.x place.0)) (moved_back c.y p.y (not_true _ tests.1) (inside p.y place.1)))

path_back : (before : List Point) (c : Point) (more : List Point) → are_near c more ≡ true → AllByRecursion IsPlace more
    → path_in before c (path_from c more) ≡ Some (record { points = before ++ more; last = last_of c more })
path_back before c [] near places = ap (λ ps. let p : Path = record { points = ps; last = c } in Some p) (sym (append-nil before))
path_back before c (p ∷ more) near places =
    let tests = and_true (is_near c p) (are_near p more) near in
    ap (λ o. option_and_then (λ q. path_in (before ++ q ∷ []) q (path_from p more)) o) (step_back c p tests.0 places.0)
    ∙ path_back (before ++ p ∷ []) p more tests.1 places.1
    ∙ ap (λ ps. let q : Path = record { points = ps; last = last_of p more } in Some q) (append_assoc before (p ∷ []) more)

both : (p q : Bool) → p ≡ true → q ≡ true → (p && q) ≡ true
both p q e f = rw (e, f) refl

-- a part in front of others
module _ (ring : Bool) (c p : Point) (ps : List Point) (rest : List ℕ) where
  tail : List ℕ
  tail = path_from p ps ++ (closing ring ++ rest)

  all : List ℕ
  all = 9 ∷ zig (p.x -ℤ c.x) ∷ zig (p.y -ℤ c.y) ∷ (2 + 8 * length ps) ∷ tail

  flat : stroke (closing ring) c (p ∷ ps) ++ rest ≡ all
  unfolding all tail
  flat = ap (λ t. 9 ∷ zig (p.x -ℤ c.x) ∷ zig (p.y -ℤ c.y) ∷ (2 + 8 * length ps) ∷ t) (append_assoc (path_from p ps) (closing ring) rest)

  count : (2 + 8 * length ps) / 8 ≡ length ps
  count = omega arith

  pairs : 2 * ((2 + 8 * length ps) / 8) ≡ length (path_from p ps)
  pairs = ap (λ n. 2 * n) count ∙ sym (length_path p ps)

  line : begins_line all ≡ true
  unfolding begins_line all
  line = both _ _ (le-leb 4 (suc (suc (suc (suc (length tail))))) (omega arith)) (both _ _ refl (eq-eqb ((2 + 8 * length ps) % 8) 2 (omega arith)))

  room : least_of ring ≤ length (p ∷ ps) → has_pairs ring all ≡ true
  unfolding has_pairs all tail
  room enough =
      both _ _ (le-leb (least_of ring) ((2 + 8 * length ps) / 8 + 1) (omega arith))
      (le-leb (4 + 2 * ((2 + 8 * length ps) / 8)) (suc (suc (suc (suc (length (path_from p ps ++ (closing ring ++ rest)))))))
      (omega (arith, pairs, length-append (path_from p ps) (closing ring ++ rest))))

  front : take (2 * ((2 + 8 * length ps) / 8)) tail ≡ path_from p ps
  unfolding tail
  front = ap (λ n. take n (path_from p ps ++ (closing ring ++ rest))) pairs ∙ take-append_seam (path_from p ps) (closing ring ++ rest)

  behind : drop (2 * ((2 + 8 * length ps) / 8)) tail ≡ closing ring ++ rest
  unfolding tail
  behind = ap (λ n. drop n (path_from p ps ++ (closing ring ++ rest))) pairs ∙ drop-append_seam (path_from p ps) (closing ring ++ rest)

ends_back : (ring : Bool) (rest : List ℕ) → after_part ring (closing ring ++ rest) ≡ Some rest
ends_back false rest = refl
ends_back true rest = refl

part_back : (ring : Bool) (c p : Point) (ps : List Point) (rest : List ℕ) → can_draw c (p ∷ ps) ≡ true → HasForm ring (p ∷ ps)
    → part_in ring c (stroke (closing ring) c (p ∷ ps) ++ rest)
    ≡ Some (record { points = p ∷ ps; last = last_of p ps; rest = rest })
unfolding all
part_back ring c p ps rest can form =
    let near = and_true (is_near c p) (are_near p ps) (and_true _ (are_near c (p ∷ ps)) can).1 in
    let goes = ap (λ xs. path_in (p ∷ []) p xs) (front ring c p ps rest) ∙ path_back (p ∷ []) p ps near.1 form.places.1 in
    let ends = ap (λ xs. after_part ring xs) (behind ring c p ps rest) ∙ ends_back ring rest in
    ap (λ xs. part_in ring c xs) (flat ring c p ps rest)
    ∙ one_part ring c (all ring c p ps rest) p _ rest (line ring c p ps rest) (room ring c p ps rest form.enough)
    (step_back c p near.0 form.places.0) goes ends

parts_back : (ring : Bool) (n : ℕ) (before : List (List Point)) (c : Point) (parts : List (List Point)) → can_draw_all c parts ≡ true
    → AllByRecursion (HasForm ring) parts → length (strokes (closing ring) c parts) < n
    → parts_after ring n before c (strokes (closing ring) c parts) ≡ Some (before ++ parts)
parts_back ring zero before c parts can forms few = absurd (omega arith)
parts_back ring (suc n) before c [] can forms few = ap Some (sym (append-nil before))
parts_back ring (suc n) before c ([] ∷ parts) can forms few = absurd (cc)
parts_back ring (suc n) before c ((p ∷ ps) ∷ parts) can forms few =
    let tests = and_true (can_draw c (p ∷ ps)) (can_draw_all (last_of p ps) parts) can in
    let others : List ℕ = strokes (closing ring) (last_of p ps) parts in
    let fewer : length others < n =
    omega (arith, few, length-append (stroke (closing ring) c (p ∷ ps)) others) in
    ap (λ o. option_and_then (λ part. parts_after ring n (before ++ part.points ∷ []) part.last part.rest) o)
    (part_back ring c p ps others tests.0 forms.0)
    ∙ parts_back ring n (before ++ (p ∷ ps) ∷ []) (last_of p ps) parts tests.1 forms.1 fewer
    ∙ ap Some (append_assoc before ((p ∷ ps) ∷ []) parts)

pub spelled_is_read : (ring : Bool) (parts : List (List Point)) → 0 < length parts → can_draw_all origin parts ≡ true
    → AllByRecursion (HasForm ring) parts → parts_in ring (strokes (closing ring) origin parts) ≡ Some parts
spelled_is_read ring [] some can forms = absurd (omega arith)
spelled_is_read ring ([] ∷ parts) some can forms = absurd (cc)
spelled_is_read ring ((p ∷ ps) ∷ parts) some can forms =
    parts_back ring (suc (length (strokes (closing ring) origin ((p ∷ ps) ∷ parts)))) [] origin ((p ∷ ps) ∷ parts) can forms (omega arith)
