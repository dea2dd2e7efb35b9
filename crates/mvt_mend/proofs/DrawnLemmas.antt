-- Rings that stay draw a geometry, if each has three points and the first no negative area.
use Rattle.std.proofs.Common.{arith, ◌≡◌, ℕ, ◌^◌, ◌≤◌, ◌&&◌, ◌||◌, not, nat_lt, nat_le, Bool, true, false, ℤ, pos, ◌-ℤ◌, ◌≤ℤ◌, ◌<ℤ◌, List, [], ◌∷◌, ◌++◌, length, Some, Ok, refl, sym, ap, subst}
use Rattle.std.specs.Prelude.{if◌then◌else◌}
use Rattle.std.specs.Int.Signed.{lt_z}
use Rattle.std.specs.List.{AllByRecursion}
use Rattle.std.proofs.lemmas.Int.{ints}
use Rattle.std.proofs.lemmas.Bool.{leb-true, or_right}
use Rattle.mvt_wire.specs.Packed.{is_nil}
use Rattle.mvt_geometry.specs.declared.shape.Point.{Point}
use Rattle.mvt_geometry.specs.declared.shape.Polygon.{Polygon}
use Rattle.mvt_geometry.specs.declared.shape.Geometry.{Geometry}
use Rattle.mvt_geometry.specs.declared.shape.Geometry.TheVariants.{Polygons}
use Rattle.mvt_geometry.specs.declared.shape.Kind.TheVariants as kinds
use Rattle.mvt_geometry.specs.Area.{area2}
use Rattle.mvt_geometry.specs.Shape.{AreSteps, IsPlace, IsStep, joined, last_of, origin, rings_of, wide}
use Rattle.mvt_geometry.specs.Valid.{AreInner, IsStroke}
use Rattle.mvt_geometry.specs.Drawing.{Draws, strokes}
use Rattle.mvt_geometry.specs.Table.{is_outside}
use Rattle.mvt_geometry.proofs.GeometryLaws.{drawn_is_faultless}
use Rattle.mvt_rings.specs.declared.rings.Kept.{Kept}
use Rattle.mvt_rings.specs.Signs.{is_negative, is_positive}
use Rattle.mvt_rings.specs.Mending.{begins_negative, mended_rings}
use Rattle.mvt_rings.specs.Origins.{ComesFrom, ring_at}
use Rattle.mvt_rings.proofs.RingLaws.{rings_come_from_rings_origin}
use Rattle.mvt_mend.specs.Reading.{parts_in}
use Rattle.mvt_mend.specs.Drawing.{are_near, can_draw, can_draw_all, closing, is_near}
use Rattle.mvt_mend.specs.Geometry.{is_faultless, points_of}
use Rattle.mvt_mend.specs.Sound.{DrawsOnly, IsLong}
use Rattle.mvt_mend.proofs.GeometryLemmas.{has_none}
use Rattle.mvt_mend.proofs.PlacesLemmas.{read_places}
use Rattle.mvt_mend.proofs.ReadLemmas.{not_true}
use Rattle.mvt_mend.proofs.SmallLemmas.{inside_is}
use Rattle.mvt_mend.proofs.SoundLemmas.{at_all, at_apart, told_all, told_apart}
use Rattle.mvt_mend.proofs.SpellingLemmas.{and_true, then_some}

-- the interior rings in front of the next exterior one, and the polygons from that on
inner : List (List Point) → List (List Point)
inner [] = []
inner (r ∷ rings) = if is_positive r then [] else r ∷ inner rings

polygons : List (List Point) → List Polygon
polygons [] = []
polygons (r ∷ rings) = if is_positive r then record { outer = r; rest = inner rings } ∷ polygons rings else polygons rings

grouped_one : (b : Bool) (r : List Point) (rings : List (List Point)) → inner rings ++ rings_of (polygons rings) ≡ rings
    → (if b then [] else r ∷ inner rings)
    ++ rings_of (if b then record { outer = r; rest = inner rings } ∷ polygons rings else polygons rings) ≡ r ∷ rings
grouped_one true r rings same = ap (λ (rs : List (List Point)). r ∷ rs) same
grouped_one false r rings same = ap (λ (rs : List (List Point)). r ∷ rs) same

grouped : (rings : List (List Point)) → inner rings ++ rings_of (polygons rings) ≡ rings
unfolding inner polygons
grouped [] = refl
grouped (r ∷ rings) = grouped_one (is_positive r) r rings (grouped rings)

no_more : (z : ℤ) → lt_z (pos 0) z ≡ false → z ≤ℤ pos 0
no_more z is = grind (arith, ints)

more : (z : ℤ) → lt_z (pos 0) z ≡ true → pos 0 <ℤ z
more z is = grind (arith, ints)

no_less : (z : ℤ) → lt_z z (pos 0) ≡ false → pos 0 ≤ℤ z
no_less z is = grind (arith, ints)

inner_if : (b : Bool) (r : List Point) (rings : List (List Point)) → is_positive r ≡ b → AreInner (inner rings)
    → AreInner (if b then [] else r ∷ inner rings)
unfolding is_positive
inner_if true r rings is are = tt
inner_if false r rings is are = (no_more (area2 r) is, are)

inner_are : (rings : List (List Point)) → AreInner (inner rings)
unfolding inner
inner_are [] = tt
inner_are (r ∷ rings) = inner_if (is_positive r) r rings refl (inner_are rings)

abbrev IsOuter : Polygon → Type 0
IsOuter q = (pos 0 <ℤ area2 q.outer) × AreInner q.rest

outer_if : (b : Bool) (r : List Point) (rings : List (List Point)) → is_positive r ≡ b → AllByRecursion IsOuter (polygons rings)
    → AllByRecursion IsOuter (if b then record { outer = r; rest = inner rings } ∷ polygons rings else polygons rings)
unfolding is_positive
outer_if true r rings is are = ((more (area2 r) is, inner_are rings), are)
outer_if false r rings is are = are

outer_are : (rings : List (List Point)) → AllByRecursion IsOuter (polygons rings)
unfolding polygons
outer_are [] = tt
outer_are (r ∷ rings) = outer_if (is_positive r) r rings refl (outer_are rings)

-- differences are what parameters can say
step_is : (c p : Point) → is_near c p ≡ true → IsStep c p
unfolding is_near
step_is c p near =
    let tests = and_true (not (is_outside wide (p.x -ℤ c.x))) (not (is_outside wide (p.y -ℤ c.y))) near in
    (inside_is _ (not_true _ tests.0), inside_is _ (not_true _ tests.1))

steps_joined : (c : Point) (points rest : List Point) → are_near c points ≡ true → AreSteps (last_of c points) rest
    → AreSteps c (points ++ rest)
steps_joined c [] rest near steps = steps
steps_joined c (p ∷ points) rest near steps =
    let tests = and_true (is_near c p) (are_near p points) near in
    (step_is c p tests.0, steps_joined p points rest tests.1 steps)

steps_are : (c : Point) (rings : List (List Point)) → can_draw_all c rings ≡ true → AreSteps c (joined rings)
steps_are c [] can = tt
steps_are c (r ∷ rings) can =
    let tests = and_true (can_draw c r) (can_draw_all (last_of c r) rings) can in
    let near = and_true (nat_lt 0 (length r) && nat_le (length r) 536870912) (are_near c r) tests.0 in
    steps_joined c r (joined rings) near.1 (steps_are (last_of c r) rings tests.1)

few_is : (c : Point) (r : List Point) → can_draw c r ≡ true → length r ≤ 2 ^ 29
few_is c r can =
    let near = and_true (nat_lt 0 (length r) && nat_le (length r) 536870912) (are_near c r) can in
    let count = and_true (nat_lt 0 (length r)) (nat_le (length r) 536870912) near.0 in leb-true (length r) 536870912 count.1

stroke_is : (parts : List (List Point)) (c : Point) (k : Kept) → AllByRecursion (AllByRecursion IsPlace) parts → ComesFrom parts k
    → IsLong k → can_draw c k.points ≡ true → IsStroke 3 k.points
stroke_is parts c k places comes long can = record {
  enough = long;
  few = few_is c k.points can;
  apart = told_apart (ring_at parts k.index) k.points comes.1 (at_apart parts k.index);
  places = told_all IsPlace (ring_at parts k.index) k.points comes.1 (at_all IsPlace parts k.index comes.0 places);
}

strokes_are : (parts : List (List Point)) (c : Point) (kept : List Kept) → AllByRecursion (AllByRecursion IsPlace) parts
    → AllByRecursion (ComesFrom parts) kept → AllByRecursion IsLong kept → can_draw_all c (points_of kept) ≡ true
    → AllByRecursion (IsStroke 3) (points_of kept)
strokes_are parts c [] places come long can = tt
strokes_are parts c (k ∷ kept) places come long can =
    let tests = and_true (can_draw c k.points) (can_draw_all (last_of c k.points) (points_of kept)) can in (
      stroke_is parts c k places come.0 long.0 tests.0,
      strokes_are parts (last_of c k.points) kept places come.1 long.1 tests.1,
    )

rings_draw : (first : List Point) (rings : List (List Point)) → is_negative first ≡ false
    → AllByRecursion (IsStroke 3) (first ∷ rings) → AreSteps origin (joined (first ∷ rings))
    → (g : Geometry) × Draws kinds.Polygon (strokes (closing true) origin (first ∷ rings)) g
unfolding is_negative
rings_draw first rings sign strokes_are steps =
    let whole : List Polygon = record { outer = first; rest = inner rings } ∷ polygons rings in
    let same : rings_of whole ≡ first ∷ rings = ap (λ (rs : List (List Point)). first ∷ rs) (grouped rings) in (
      Polygons whole,
      record {
        same_kind = refl;
        valid = (
          (refl, no_less (area2 first) sign, inner_are rings, outer_are rings),
          subst (AllByRecursion (IsStroke 3)) (sym same) strokes_are,
          subst (λ (rs : List (List Point)). AreSteps origin (joined rs)) (sym same) steps,
        );
        spelled = ap (λ (rs : List (List Point)). strokes (closing true) origin rs) (sym same);
      },
    )

-- what rings are told to can't break a rule
faultless_if : (kept : List Kept) (new : List ℕ) → begins_negative kept ≡ false → AllByRecursion (IsStroke 3) (points_of kept)
    → AreSteps origin (joined (points_of kept)) → strokes (closing true) origin (points_of kept) ≡ new
    → (is_nil new || is_faultless kinds.Polygon new) ≡ true
faultless_if [] new sign are steps is = ap (λ (ns : List ℕ). is_nil ns || is_faultless kinds.Polygon ns) (sym is)
faultless_if (k ∷ kept) new sign are steps is =
    let drawn = rings_draw k.points (points_of kept) sign are steps in
    let none = drawn_is_faultless kinds.Polygon (strokes (closing true) origin (points_of (k ∷ kept))) drawn.0 drawn.1 in
    or_right (is_nil new) _ (subst (λ (ns : List ℕ). is_faultless kinds.Polygon ns ≡ true) is (sym (has_none kinds.Polygon _ none)))

pub kept_draw : (ints : List ℕ) (parts : List (List Point)) (kept : List Kept) → parts_in true ints ≡ Some parts
    → mended_rings parts ≡ Ok kept → AllByRecursion IsLong kept → begins_negative kept ≡ false
    → DrawsOnly kinds.Polygon true kept
kept_draw ints parts kept read keeps long sign new draws =
    let drawn = then_some (can_draw_all origin (points_of kept)) (Some (strokes (closing true) origin (points_of kept))) new draws in
    let is : strokes (closing true) origin (points_of kept) ≡ new = let e = drawn.1 in cc in
    faultless_if kept new sign
    (strokes_are parts origin kept (read_places true ints parts read) (rings_come_from_rings_origin parts kept keeps) long drawn.0)
    (steps_are origin (points_of kept) drawn.0) is
