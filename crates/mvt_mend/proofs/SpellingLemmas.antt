-- The parts that were read are those that the integers spell.
use Rattle.std.proofs.Common.{arith, ◌≡◌, ℕ, zero, suc, ◌+◌, ◌*◌, ◌/◌, ◌%◌, ◌≤◌, ◌&&◌, ◌==◌, Bool, true, false, nat_le, ℤ, ◌+ℤ◌, ◌-ℤ◌, List, [], ◌∷◌, ◌++◌, length, take, drop, Option, Some, None, refl, sym, ap, ap₂, subst, ◌∙◌, append_assoc}
use Rattle.std.specs.Prelude.{if◌then◌else◌}
use Rattle.std.specs.Option.{option_map, option_and_then}
use Rattle.std.proofs.lemmas.List.{append-nil, take-append-drop, length-take-le}
use Rattle.std.proofs.lemmas.Int.{ints}
use Rattle.std.proofs.lemmas.Bool.{eqb-true, leb-true}
use Rattle.mvt_wire.specs.Zigzag.{zig, unzig}
use Rattle.mvt_wire.proofs.WireLaws.{zigzag_function_code}
use Rattle.mvt_geometry.specs.declared.shape.Point.{Point}
use Rattle.mvt_geometry.specs.Shape.{wide, origin, last_of}
use Rattle.mvt_geometry.specs.Table.{is_outside}
use Rattle.mvt_geometry.specs.Drawing.{path_from, stroke, strokes}
use Rattle.mvt_mend.specs.Reading.{moved, step, Path, path_in, least_of, begins_line, has_pairs, after_part, Part, part_in, parts_after, parts_in}
use Rattle.mvt_mend.specs.Drawing.{closing}

-- something comes of something
pub and_then_some : {A B : Type 0} (f : A → Option B) (o : Option A) (y : B) → option_and_then f o ≡ Some y
    → (x : A) × (o ≡ Some x) × (f x ≡ Some y)
and_then_some f None y h = absurd (cc)
and_then_some f (Some x) y h = (x, refl, h)

pub map_some : {A B : Type 0} (f : A → B) (o : Option A) (y : B) → option_map f o ≡ Some y → (x : A) × (o ≡ Some x) × (f x ≡ y)
map_some f None y h = absurd (cc)
map_some f (Some x) y h = (x, refl, cc)

pub then_some : {A : Type 0} (b : Bool) (o : Option A) (y : A) → (if b then o else None) ≡ Some y → (b ≡ true) × (o ≡ Some y)
then_some true o y h = (refl, h)
then_some false o y h = absurd (cc)

pub else_some : {A : Type 0} (b : Bool) (o : Option A) (y : A) → (if b then None else o) ≡ Some y → o ≡ Some y
else_some true o y h = absurd (cc)
else_some false o y h = h

-- a parameter is the difference that it makes
difference : (c u : ℤ) → (c +ℤ u) -ℤ c ≡ u
difference c u = omega (arith, ints)

moved_spelled : (c : ℤ) (n : ℕ) (z : ℤ) → moved c n ≡ Some z → zig (z -ℤ c) ≡ n
unfolding moved
moved_spelled c n z h =
    let inner = else_some (n == 4294967295) (if is_outside wide (c +ℤ unzig n) then None else Some (c +ℤ unzig n)) z h in
    let there : Some (c +ℤ unzig n) ≡ Some z = else_some (is_outside wide (c +ℤ unzig n)) (Some (c +ℤ unzig n)) z inner in
    let is : z ≡ c +ℤ unzig n = cc in
    ap (λ y. zig (y -ℤ c)) is ∙ ap zig (difference c (unzig n)) ∙ zigzag_function_code n

step_spelled : (c : Point) (dx dy : ℕ) (p : Point) → step c dx dy ≡ Some p → (zig (p.x -ℤ c.x) ≡ dx) × (zig (p.y -ℤ c.y) ≡ dy)
unfolding step
step_spelled c dx dy p h =
    let to_x = and_then_some (λ x. option_map (λ y. let q : Point = record { x = x; y = y } in q) (moved c.y dy)) (moved c.x dx) p h in
    let to_y = map_some (λ y. let q : Point = record { x = to_x.0; y = y } in q) (moved c.y dy) p to_x.2 in
    let x = moved_spelled c.x dx to_x.0 to_x.1 in
    let y = moved_spelled c.y dy to_y.0 to_y.1 in (
      ap (λ (q : Point). zig (q.x -ℤ c.x)) (sym to_y.2) ∙ x,
      ap (λ (q : Point). zig (q.y -ℤ c.y)) (sym to_y.2) ∙ y,
    )

-- the pairs of a path
record IsPathOf (before : List Point) (c : Point) (ps : List ℕ) (path : Path) : Type 0 where
  more : List Point
  points : path.points ≡ before ++ more
  spelled : path_from c more ≡ ps
  last : path.last ≡ last_of c more

path_spelled : (before : List Point) (c : Point) (ps : List ℕ) (path : Path) → path_in before c ps ≡ Some path → IsPathOf before c ps path
path_spelled before c [] path h =
    let whole : Path = record { points = before; last = c } in
    let e : whole ≡ path = cc in
    record { more = []; points = ap (λ p. p.points) (sym e) ∙ sym (append-nil before); spelled = refl; last = ap (λ p. p.last) (sym e) }
path_spelled before c (dx ∷ []) path h = absurd (cc)
path_spelled before c (dx ∷ dy ∷ ps) path h =
    let goes = and_then_some (λ p. path_in (before ++ p ∷ []) p ps) (step c dx dy) path h in
    let p = goes.0 in
    let pair = step_spelled c dx dy p goes.1 in
    let rest = path_spelled (before ++ p ∷ []) p ps path goes.2 in
    record {
      more = p ∷ rest.more;
      points = rest.points ∙ append_assoc before (p ∷ []) rest.more;
      spelled = ap₂ (λ a b. a ∷ b) pair.0 (ap₂ (λ a b. a ∷ b) pair.1 rest.spelled);
      last = rest.last;
    }

pub length_path : (c : Point) (points : List Point) → length (path_from c points) ≡ 2 * length points
length_path c [] = refl
length_path c (p ∷ points) = omega (arith, length_path p points)

-- what ends a part
ended : (ring : Bool) (behind rest : List ℕ) → after_part ring behind ≡ Some rest → closing ring ++ rest ≡ behind
ended false behind rest h = cc
ended true [] rest h = absurd (cc)
ended true (n ∷ behind) rest h =
    let e = then_some (n == 15) (Some behind) rest h in
    ap₂ (λ a b. a ∷ b) (sym (eqb-true n 15 e.0)) (let f : rest ≡ behind = let g = e.1 in cc in f)

-- a part in front
record IsPartOf (ring : Bool) (c : Point) (all : List ℕ) (part : Part) : Type 0 where
  spelled : stroke (closing ring) c part.points ++ part.rest ≡ all
  last : part.last ≡ last_of c part.points

spelled_from : (ring : Bool) (c : Point) (a b d e : ℕ) (tail : List ℕ) (first : Point) (path : Path) (rest : List ℕ) → a ≡ 9
    → e % 8 ≡ 2 → 2 * (e / 8) ≤ length tail → step c b d ≡ Some first
    → path_in (first ∷ []) first (take (2 * (e / 8)) tail) ≡ Some path → after_part ring (drop (2 * (e / 8)) tail) ≡ Some rest
    → IsPartOf ring c (a ∷ b ∷ d ∷ e ∷ tail) (record { points = path.points; last = path.last; rest = rest })
spelled_from ring c a b d e tail first path rest is_move is_line room begun goes ends =
    let pair = step_spelled c b d first begun in
    let is = path_spelled (first ∷ []) first (take (2 * (e / 8)) tail) path goes in
    let long : 2 * length is.more ≡ 2 * (e / 8) =
    sym (length_path first is.more) ∙ ap length is.spelled ∙ length-take-le (2 * (e / 8)) tail room in
    let line : 2 + 8 * length is.more ≡ e = omega (arith, long, is_line) in
    let back = ended ring (drop (2 * (e / 8)) tail) rest ends in
    let tail_is : path_from first is.more ++ (closing ring ++ rest) ≡ tail =
    ap₂ (λ xs ys. xs ++ ys) is.spelled back ∙ take-append-drop (2 * (e / 8)) tail in
    let flat : (path_from first is.more ++ closing ring) ++ rest ≡ tail =
    append_assoc (path_from first is.more) (closing ring) rest ∙ tail_is in
    let drawn : stroke (closing ring) c (first ∷ is.more) ++ rest ≡ a ∷ b ∷ d ∷ e ∷ tail =
    ap₂ (λ x xs. x ∷ xs) (sym is_move)
    (ap₂ (λ x xs. x ∷ xs) pair.0 (ap₂ (λ x xs. x ∷ xs) pair.1 (ap₂ (λ x xs. x ∷ xs) line flat))) in
    record {
      spelled = ap (λ ps. stroke (closing ring) c ps ++ rest) is.points ∙ drawn;
      last = is.last ∙ sym (ap (λ ps. last_of c ps) is.points);
    }

pub and_true : (p q : Bool) → (p && q) ≡ true → (p ≡ true) × (q ≡ true)
and_true true q h = (refl, h)
and_true false q h = absurd (cc)

nat_le_true : (m n : ℕ) → nat_le m n ≡ true → m ≤ n
nat_le_true m n h = leb-true m n h

part_spelled : (ring : Bool) (c : Point) (all : List ℕ) (part : Part) → part_in ring c all ≡ Some part → IsPartOf ring c all part
unfolding part_in begins_line has_pairs
part_spelled ring c [] part h = absurd (cc)
part_spelled ring c (a ∷ []) part h = absurd (cc)
part_spelled ring c (a ∷ b ∷ []) part h = absurd (cc)
part_spelled ring c (a ∷ b ∷ d ∷ []) part h = absurd (cc)
part_spelled ring c (a ∷ b ∷ d ∷ e ∷ tail) part h =
    let all : List ℕ = a ∷ b ∷ d ∷ e ∷ tail in
    let head = then_some (begins_line all && has_pairs ring all) _ part h in
    let tests = and_true (begins_line all) (has_pairs ring all) head.0 in
    let commands = and_true (a == 9) (e % 8 == 2) (and_true (nat_le 4 (length all)) ((a == 9) && (e % 8 == 2)) tests.0).1 in
    let room = nat_le_true (4 + 2 * (e / 8)) (length all) (and_true (nat_le (least_of ring) (e / 8 + 1)) (nat_le (4 + 2 * (e / 8)) (length all)) tests.1).1 in
    let ends = λ (path : Path). option_map (λ rest. let p : Part = record { points = path.points; last = path.last; rest = rest } in p)
    (after_part ring (drop (2 * (e / 8)) tail)) in
    let begun = and_then_some (λ first. option_and_then ends (path_in (first ∷ []) first (take (2 * (e / 8)) tail))) (step c b d) part head.1 in
    let goes = and_then_some ends (path_in (begun.0 ∷ []) begun.0 (take (2 * (e / 8)) tail)) part begun.2 in
    let done = map_some (λ rest. let p : Part = record { points = goes.0.points; last = goes.0.last; rest = rest } in p)
    (after_part ring (drop (2 * (e / 8)) tail)) part goes.2 in
    subst (λ p. IsPartOf ring c all p) done.2
    (spelled_from ring c a b d e tail begun.0 goes.0 done.0 (eqb-true a 9 commands.0) (eqb-true (e % 8) 2 commands.1) (omega arith)
    begun.1 goes.1 done.1)

-- all parts
record ArePartsOf (ring : Bool) (before : List (List Point)) (c : Point) (all : List ℕ) (parts : List (List Point)) : Type 0 where
  more : List (List Point)
  parts_are : parts ≡ before ++ more
  spelled : strokes (closing ring) c more ≡ all

parts_spelled : (ring : Bool) (n : ℕ) (before : List (List Point)) (c : Point) (all : List ℕ) (parts : List (List Point))
    → parts_after ring n before c all ≡ Some parts → ArePartsOf ring before c all parts
parts_spelled ring zero before c all parts h = absurd (cc)
parts_spelled ring (suc n) before c [] parts h =
    let e : before ≡ parts = cc in record { more = []; parts_are = sym e ∙ sym (append-nil before); spelled = refl }
parts_spelled ring (suc n) before c (i ∷ all) parts h =
    let goes = and_then_some (λ part. parts_after ring n (before ++ part.points ∷ []) part.last part.rest) (part_in ring c (i ∷ all)) parts h in
    let part = goes.0 in
    let is = part_spelled ring c (i ∷ all) part goes.1 in
    let rest = parts_spelled ring n (before ++ part.points ∷ []) part.last part.rest parts goes.2 in
    record {
      more = part.points ∷ rest.more;
      parts_are = rest.parts_are ∙ append_assoc before (part.points ∷ []) rest.more;
      spelled = ap (λ xs. stroke (closing ring) c part.points ++ xs) (ap (λ q. strokes (closing ring) q rest.more) (sym is.last) ∙ rest.spelled)
          ∙ is.spelled;
    }

pub read_parts_spelled : (ring : Bool) (all : List ℕ) (parts : List (List Point)) → parts_in ring all ≡ Some parts
    → all ≡ strokes (closing ring) origin parts
read_parts_spelled ring [] parts h = absurd (cc)
read_parts_spelled ring (i ∷ all) parts h =
    let are = parts_spelled ring (suc (length (i ∷ all))) [] origin (i ∷ all) parts h in
    sym are.spelled ∙ ap (λ ps. strokes (closing ring) origin ps) (sym are.parts_are)
