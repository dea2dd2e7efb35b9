-- The points of parts that were read are in range.
use Rattle.std.proofs.Common.{◌≡◌, ℕ, zero, suc, ◌*◌, ◌==◌, ◌&&◌, Bool, true, false, ℤ, ◌+ℤ◌, List, [], ◌∷◌, ◌++◌, length, take, drop, Option, Some, None, refl, subst}
use Rattle.std.specs.Prelude.{if◌then◌else◌, slice_index}
use Rattle.std.specs.Option.{option_map, option_and_then}
use Rattle.std.specs.List.{AllByRecursion}
use Rattle.mvt_base.proofs.ListLemmas.{all_joined}
use Rattle.mvt_wire.specs.Zigzag.{unzig}
use Rattle.mvt_geometry.specs.declared.shape.Point.{Point}
use Rattle.mvt_geometry.specs.Shape.{InRange, IsPlace, wide, origin}
use Rattle.mvt_geometry.specs.Table.{is_outside}
use Rattle.mvt_mend.specs.Reading.{moved, step, Path, path_in, begins_line, count_in, has_pairs, after_part, Part, part_in, parts_after, parts_in}
use Rattle.mvt_mend.proofs.SpellingLemmas.{and_then_some, else_some, map_some, then_some}
use Rattle.mvt_mend.proofs.SmallLemmas.{inside_is}

else_test : {A : Type 0} (b : Bool) (o : Option A) (y : A) → (if b then None else o) ≡ Some y → b ≡ false
else_test true o y h = absurd (cc)
else_test false o y h = refl

moved_place : (c : ℤ) (n : ℕ) (z : ℤ) → moved c n ≡ Some z → InRange z
unfolding moved
moved_place c n z h =
    let inner = else_some (n == 4294967295) (if is_outside wide (c +ℤ unzig n) then None else Some (c +ℤ unzig n)) z h in
    let within = else_test (is_outside wide (c +ℤ unzig n)) (Some (c +ℤ unzig n)) z inner in
    let there : Some (c +ℤ unzig n) ≡ Some z = else_some (is_outside wide (c +ℤ unzig n)) (Some (c +ℤ unzig n)) z inner in
    let is : c +ℤ unzig n ≡ z = cc in subst (λ (y : ℤ). InRange y) is (inside_is _ within)

step_place : (c : Point) (dx dy : ℕ) (p : Point) → step c dx dy ≡ Some p → IsPlace p
unfolding step
step_place c dx dy p h =
    let to_x = and_then_some (λ x. option_map (λ y. let q : Point = record { x = x; y = y } in q) (moved c.y dy)) (moved c.x dx) p h in
    let to_y = map_some (λ y. let q : Point = record { x = to_x.0; y = y } in q) (moved c.y dy) p to_x.2 in
    subst IsPlace to_y.2 (moved_place c.x dx to_x.0 to_x.1, moved_place c.y dy to_y.0 to_y.1)

path_places : (before : List Point) (c : Point) (ps : List ℕ) (path : Path) → AllByRecursion IsPlace before
    → path_in before c ps ≡ Some path → AllByRecursion IsPlace path.points
path_places before c [] path places h =
    let whole : Path = record { points = before; last = c } in
    let e : whole ≡ path = cc in subst (λ (p : Path). AllByRecursion IsPlace p.points) e places
path_places before c (dx ∷ []) path places h = absurd (cc)
path_places before c (dx ∷ dy ∷ ps) path places h =
    let goes = and_then_some (λ p. path_in (before ++ p ∷ []) p ps) (step c dx dy) path h in
    path_places (before ++ goes.0 ∷ []) goes.0 ps path
    (all_joined IsPlace before (goes.0 ∷ []) places (step_place c dx dy goes.0 goes.1, tt)) goes.2

part_places : (ring : Bool) (c : Point) (all : List ℕ) (part : Part) → part_in ring c all ≡ Some part
    → AllByRecursion IsPlace part.points
unfolding part_in
part_places ring c all part h =
    let behind = drop (2 * count_in all) (drop 4 all) in
    let front = take (2 * count_in all) (drop 4 all) in
    let ends = λ (path : Path). option_map (λ rest. let p : Part = record { points = path.points; last = path.last; rest = rest } in p)
    (after_part ring behind) in
    let head = then_some (begins_line all && has_pairs ring all) _ part h in
    let begun = and_then_some (λ first. option_and_then ends (path_in (first ∷ []) first front))
    (step c (slice_index all 1) (slice_index all 2)) part head.1 in
    let goes = and_then_some ends (path_in (begun.0 ∷ []) begun.0 front) part begun.2 in
    let done = map_some (λ rest. let p : Part = record { points = goes.0.points; last = goes.0.last; rest = rest } in p)
    (after_part ring behind) part goes.2 in
    subst (λ (p : Part). AllByRecursion IsPlace p.points) done.2
    (path_places (begun.0 ∷ []) begun.0 front goes.0 (step_place c _ _ begun.0 begun.1, tt) goes.1)

after_places : (ring : Bool) (n : ℕ) (before : List (List Point)) (c : Point) (all : List ℕ) (parts : List (List Point))
    → AllByRecursion (AllByRecursion IsPlace) before → parts_after ring n before c all ≡ Some parts
    → AllByRecursion (AllByRecursion IsPlace) parts
after_places ring zero before c all parts places h = absurd (cc)
after_places ring (suc n) before c [] parts places h =
    let e : before ≡ parts = cc in subst (AllByRecursion (AllByRecursion IsPlace)) e places
after_places ring (suc n) before c (i ∷ all) parts places h =
    let goes = and_then_some (λ part. parts_after ring n (before ++ part.points ∷ []) part.last part.rest) (part_in ring c (i ∷ all)) parts h in
    after_places ring n (before ++ goes.0.points ∷ []) goes.0.last goes.0.rest parts
    (all_joined (AllByRecursion IsPlace) before (goes.0.points ∷ []) places (part_places ring c (i ∷ all) goes.0 goes.1, tt)) goes.2

pub read_places : (ring : Bool) (all : List ℕ) (parts : List (List Point)) → parts_in ring all ≡ Some parts
    → AllByRecursion (AllByRecursion IsPlace) parts
read_places ring [] parts h = absurd (cc)
read_places ring (i ∷ all) parts h = after_places ring (suc (length (i ∷ all))) [] origin (i ∷ all) parts tt h
