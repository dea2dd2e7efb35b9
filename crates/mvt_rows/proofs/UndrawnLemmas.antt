-- Which rule a part breaks that was refused: it breaks one unless it can be drawn.
use Rattle.std.proofs.Common.{arith, ◌≡◌, ◌≢◌, ℕ, suc, ◌+◌, ◌^◌, ◌<◌, ◌≤◌, ◌&&◌, ◌||◌, not, nat_lt, Bool, true, false, ℤ, pos, negsuc, ◌≤ℤ◌, ◌-ℤ◌, List, [], ◌∷◌, ◌++◌, length, Option, Some, None, Ok, Err, refl, sym, ap, ap₂, ◌∙◌, subst, if◌then◌else◌}
use Rattle.std.specs.Int.Signed.{lt_z}
use Rattle.std.specs.List.{AllByRecursion}
use Rattle.std.specs.Option.{option_map, option_or}
use Rattle.std.specs.Ordering.{int_eq}
use Rattle.std.proofs.lemmas.Bool.{le-ltb, ltb-false}
use Rattle.std.proofs.lemmas.Bool.Decides.{Decides-int_eq}
use Rattle.std.proofs.lemmas.Int.{ints, by_lt_z}
use Rattle.mvt_base.proofs.RuleLemmas.{option_or-none, option_or-nones, option_or-some}
use Rattle.mvt_base.proofs.TableLemmas.{none_mapped}
use Rattle.mvt_geometry.specs.declared.strokes.RingRole.{RingRole}
use Rattle.mvt_geometry.specs.declared.strokes.RingRole.TheVariants.{First, Exterior, Interior}
use Rattle.mvt_geometry.specs.declared.shape.Geometry.TheVariants.{Points}
use Rattle.mvt_geometry.specs.declared.shape.Point.{Point}
use Rattle.mvt_geometry.specs.Area.{area2}
use Rattle.mvt_geometry.specs.Parts.{HasAreaOf, IsStrokeFrom}
use Rattle.mvt_geometry.specs.Shape.{Apart, AreSteps, InRange, IsPlace, IsStep, last_of, origin, wide}
use Rattle.mvt_geometry.specs.Table.{is_outside}
use Rattle.mvt_geometry.specs.Valid.{IsValid}
use Rattle.mvt_rows.specs.declared.undrawn.DrawingRule.{DrawingRule}
use Rattle.mvt_rows.specs.declared.undrawn.DrawingRule.TheVariants.{Count, ZeroSegment, CoordinateRange, ParameterRange}
use Rattle.mvt_rows.specs.declared.undrawn.Undrawn.{Undrawn}
use Rattle.mvt_rows.specs.Drawing.{AreJudged, end_from}
use Rattle.mvt_rows.specs.Undrawn.{Stroke, allows, area_fault, area_rule, at_point, count_fault, is_out, is_zero, of_part, part_by, parts_fault, path_fault, step_rule, stroke_fault}

-- ---- tests

pub neither : (a b : Bool) → (a || b) ≡ false → (a ≡ false) × (b ≡ false)
neither true b h = cc
neither false b h = (refl, h)

pub none_of : (a b : Bool) → a ≡ false → b ≡ false → (a || b) ≡ false
none_of true b h k = cc
none_of false b h k = k

if_none : {X : Type 0} → (b : Bool) (x : X) → (if b then Some x else None) ≡ None → b ≡ false
if_none true x h = cc
if_none false x h = refl

unless : {X : Type 0} → (b : Bool) (x : X) → b ≡ false → (if b then Some x else None) ≡ None
unless true x h = cc
unless false x h = refl

in_range : (z : ℤ) → is_outside wide z ≡ false → InRange z
in_range z h =
    let both = neither (lt_z z (negsuc 2147483646)) (lt_z (pos 2147483647) z) h in
    let low : lt_z z (negsuc 2147483646) ≡ false = both.0 in
    let high : lt_z (pos 2147483647) z ≡ false = both.1 in
    record { low = grind (arith, ints); high = grind (arith, ints) }

inside : (z : ℤ) → InRange z → is_outside wide z ≡ false
inside z h = let low : negsuc 2147483646 ≤ℤ z = h.low in let high : z ≤ℤ pos 2147483647 = h.high in grind (arith, ints)

both_in : (x y : ℤ) → is_out x y ≡ false → InRange x × InRange y
both_in x y h = let both = neither (is_outside wide x) (is_outside wide y) h in (in_range x both.0, in_range y both.1)

both_inside : (x y : ℤ) → InRange x × InRange y → is_out x y ≡ false
both_inside x y h = none_of (is_outside wide x) (is_outside wide y) (inside x h.0) (inside y h.1)

-- ---- a step

rule_none : (a b c : Bool) (p q r : DrawingRule) → (if a then Some p else (if b then Some q else (if c then Some r else None))) ≡ None
    → (a ≡ false) × (b ≡ false) × (c ≡ false)
rule_none true b c p q r h = cc
rule_none false true c p q r h = cc
rule_none false false true p q r h = cc
rule_none false false false p q r h = (refl, refl, refl)

pub rule_far : (a b c : Bool) (p q r : DrawingRule) → a ≡ true
    → Some p ≡ (if a then Some p else (if b then Some q else (if c then Some r else None)))
rule_far true b c p q r h = refl
rule_far false b c p q r h = cc

pub rule_zero : (a b c : Bool) (p q r : DrawingRule) → a ≡ false → b ≡ true
    → Some q ≡ (if a then Some p else (if b then Some q else (if c then Some r else None)))
rule_zero true b c p q r h k = cc
rule_zero false true c p q r h k = refl
rule_zero false false c p q r h k = cc

pub rule_out : (a b c : Bool) (p q r : DrawingRule) → a ≡ false → b ≡ false → c ≡ true
    → Some r ≡ (if a then Some p else (if b then Some q else (if c then Some r else None)))
rule_out true b c p q r h k l = cc
rule_out false true c p q r h k l = cc
rule_out false false true p q r h k l = refl
rule_out false false false p q r h k l = cc

pub rule_clear : (a b c : Bool) (p q r : DrawingRule) → a ≡ false → b ≡ false → c ≡ false
    → (if a then Some p else (if b then Some q else (if c then Some r else None))) ≡ None
rule_clear true b c p q r h k l = cc
rule_clear false true c p q r h k l = cc
rule_clear false false true p q r h k l = cc
rule_clear false false false p q r h k l = refl

int_same : (x y : ℤ) → x ≡ y → int_eq x y ≡ true
int_same x y h = (Decides-int_eq x y).1 h

-- neighbours of a line differ
away_from : (p q : Point) → is_zero true p q ≡ false → p ≢ q
away_from p q h same = let x : p.x ≡ q.x = ap (λ r. r.x) same in let y : p.y ≡ q.y = ap (λ r. r.y) same in
    let ex = int_same p.x q.x x in let ey = int_same p.y q.y y in cc

both_true : (a b c : Bool) → (c ≡ true → (a ≡ true) × (b ≡ true) → ⊥) → (c && (a && b)) ≡ false
both_true a b false h = refl
both_true true true true h = absurd (h refl (refl, refl))
both_true false b true h = refl
both_true true false true h = refl

int_equal : (x y : ℤ) → int_eq x y ≡ true → x ≡ y
int_equal x y h = (Decides-int_eq x y).0 h

pub step_goes : (line : Bool) (p q : Point) → (line ≡ true → p ≢ q) → is_zero line p q ≡ false
step_goes line p q h = both_true (int_eq p.x q.x) (int_eq p.y q.y) line (λ t same.
    let x = int_equal p.x q.x same.0 in let y = int_equal p.y q.y same.1 in h t (same_point x y))
  where
    same_point : p.x ≡ q.x → p.y ≡ q.y → p ≡ q
    same_point x y = ap₂ (λ (a b : ℤ). let r : Point = record { x = a; y = b } in r) x y

record Goes (line : Bool) (p q : Point) : Type 0 where
  away : line ≡ true → p ≢ q
  place : IsPlace q
  step : IsStep p q

step_none : (line : Bool) (p q : Point) → step_rule line p q ≡ None → Goes line p q
step_none line p q h =
    let all = rule_none (is_out (q.x -ℤ p.x) (q.y -ℤ p.y)) (is_zero line p q) (is_out q.x q.y) ParameterRange ZeroSegment CoordinateRange h in
    record {
      away = λ t. away_from p q (subst (λ l. is_zero l p q ≡ false) t all.1);
      place = both_in q.x q.y all.2;
      step = both_in (q.x -ℤ p.x) (q.y -ℤ p.y) all.0;
    }

step_clear : (line : Bool) (p q : Point) → Goes line p q → step_rule line p q ≡ None
step_clear line p q h =
    rule_clear (is_out (q.x -ℤ p.x) (q.y -ℤ p.y)) (is_zero line p q) (is_out q.x q.y) ParameterRange ZeroSegment CoordinateRange
    (both_inside (q.x -ℤ p.x) (q.y -ℤ p.y) h.step) (step_goes line p q h.away) (both_inside q.x q.y h.place)

-- ---- a path

pub path_none : (line : Bool) (part number : ℕ) (c : Point) (ps : List Point) → path_fault line part number c ps ≡ None
    → AllByRecursion IsPlace ps × AreSteps c ps × (line ≡ true → Apart (c ∷ ps))
path_none line part number c [] h = (tt, tt, λ t. tt)
path_none line part number c (p ∷ ps) h =
    let both = option_or-nones (option_map (at_point part number) (step_rule line c p)) (path_fault line part (suc number) p ps) h in
    let step = step_none line c p (none_mapped (at_point part number) (step_rule line c p) both.0) in
    let more = path_none line part (suc number) p ps both.1 in
    ((step.place, more.0), (step.step, more.1), λ t. (step.away t, more.2 t))

no_step : (part number : ℕ) (o : Option DrawingRule) → o ≡ None → option_map (at_point part number) o ≡ None
no_step part number o h = ap (option_map (at_point part number)) h

path_clear : (part number : ℕ) (c : Point) (ps : List Point) → AllByRecursion IsPlace ps → AreSteps c ps → Apart (c ∷ ps)
    → path_fault true part number c ps ≡ None
path_clear part number c [] places steps apart = refl
path_clear part number c (p ∷ ps) places steps apart =
    let step : Goes true c p = record { away = λ t. apart.0; place = places.0; step = steps.0 } in
    option_or-none (option_map (at_point part number) (step_rule true c p)) (path_fault true part (suc number) p ps)
    (no_step part number (step_rule true c p) (step_clear true c p step))
    ∙ path_clear part (suc number) p ps places.1 steps.1 apart.1

-- ---- a line, or a ring but for its area

count_none : (part least n : ℕ) → count_fault part least n ≡ None → (least ≤ n) × (n ≤ 2 ^ 29)
count_none part least n h =
    let both = neither (nat_lt n least) (nat_lt (2 ^ 29) n) (if_none (nat_lt n least || nat_lt (2 ^ 29) n) (of_part part Count) h) in
    (ltb-false n least both.0, ltb-false (2 ^ 29) n both.1)

not_less : (a b : ℕ) → b ≤ a → nat_lt a b ≡ false
not_less a b h = le-ltb a b h

count_clear : (part least n : ℕ) → least ≤ n → n ≤ 2 ^ 29 → count_fault part least n ≡ None
count_clear part least n enough few =
    unless (nat_lt n least || nat_lt (2 ^ 29) n) (of_part part Count)
    (none_of (nat_lt n least) (nat_lt (2 ^ 29) n) (not_less n least enough) (not_less (2 ^ 29) n few))

pub stroke_none : (part least : ℕ) (c : Point) (ps : List Point) → stroke_fault part least c ps ≡ None → IsStrokeFrom least c ps
stroke_none part least c [] h = cc
stroke_none part least c (p ∷ ps) h =
    let count = count_fault part least (length (p ∷ ps)) in
    let path = path_fault true part 1 p ps in
    let first = option_or-nones (option_map (at_point part 0) (step_rule false c p)) (option_or count path) h in
    let others = option_or-nones count path first.1 in
    let step = step_none false c p (none_mapped (at_point part 0) (step_rule false c p) first.0) in
    let many = count_none part least (length (p ∷ ps)) others.0 in
    let more = path_none true part 1 p ps others.1 in (
      record { enough = many.0; few = many.1; apart = more.2 refl; places = (step.place, more.0) },
      (step.step, more.1),
    )

pub stroke_clear : (part least : ℕ) (c : Point) (ps : List Point) → 0 < least → IsStrokeFrom least c ps → stroke_fault part least c ps ≡ None
stroke_clear part least c [] some h = absurd (omega (arith, some, h.0.enough))
stroke_clear part least c (p ∷ ps) some h =
    let step : Goes false c p = record { away = λ t. cc; place = h.0.places.0; step = h.1.0 } in
    option_or-none (option_map (at_point part 0) (step_rule false c p))
    (option_or (count_fault part least (length (p ∷ ps))) (path_fault true part 1 p ps))
    (no_step part 0 (step_rule false c p) (step_clear false c p step))
    ∙ option_or-none (count_fault part least (length (p ∷ ps))) (path_fault true part 1 p ps)
    (count_clear part least (length (p ∷ ps)) h.0.enough h.0.few)
    ∙ path_clear part 1 p ps h.0.places.1 h.1.1 h.0.apart

-- ---- the area of a ring

not_below : (a b : ℤ) → (b ≤ℤ a → ⊥) → not (lt_z a b) ≡ false
not_below a b h = by_lt_z a b (λ less. let t : lt_z a b ≡ true = grind (arith, ints) in ap not t) (λ more. absurd (h more))

below_not : (a b : ℤ) → b ≤ℤ a → not (lt_z a b) ≡ true
below_not a b h = let f : lt_z a b ≡ false = grind (arith, ints) in ap not f

pub area_refused : (role : RingRole) (area : ℤ) → (HasAreaOf role area → ⊥) → allows role area ≡ false
area_refused First area h = not_below area (pos 0) h
area_refused Exterior area h = by_lt_z (pos 0) area (λ less. absurd (h less)) (λ more. grind (arith, ints))
area_refused Interior area h = not_below (pos 0) area h

area_allowed : (role : RingRole) (area : ℤ) → HasAreaOf role area → allows role area ≡ true
area_allowed First area h = below_not area (pos 0) h
area_allowed Exterior area h = grind (arith, ints)
area_allowed Interior area h = below_not (pos 0) area h

-- ---- what was refused breaks a rule

area_told : (part : ℕ) (rule : DrawingRule) (b : Bool) → b ≡ false → (if b then None else Some (of_part part rule)) ≡ Some (of_part part rule)
area_told part rule true h = cc
area_told part rule false h = refl

pub ring_by_area : (part : ℕ) (role : RingRole) (c : Point) (ring : List Point) → stroke_fault part 3 c ring ≡ None
    → (HasAreaOf role (area2 ring) → IsStrokeFrom 3 c ring → ⊥) → part_by (Some role) part c ring ≡ Some (of_part part (area_rule role))
ring_by_area part role c ring none refused =
    option_or-none (stroke_fault part 3 c ring) (area_fault part role ring) none
    ∙ area_told part (area_rule role) (allows role (area2 ring))
    (area_refused role (area2 ring) (λ area. refused area (stroke_none part 3 c ring none)))

pub points_valid : (ps : List Point) → 0 < length ps → length ps < 2 ^ 29 → path_fault false 0 0 origin ps ≡ None → IsValid (Points ps)
points_valid ps some few none = let path = path_none false 0 0 origin ps none in (some, few, path.0, path.1)

-- ---- part after part

or_assoc : {X : Type 0} → (a b c : Option X) → option_or (option_or a b) c ≡ option_or a (option_or b c)
or_assoc None b c = refl
or_assoc (Some x) b c = refl

-- one part more
pub parts_more : (part : ℕ) (c : Point) (ss : List Stroke) (s : Stroke)
    → parts_fault part c (ss ++ s ∷ [])
    ≡ option_or (parts_fault part c ss) (part_by s.role (part + length ss) (end_from c ss) s.points)
parts_more part c [] s = or_right (part_by s.role part c s.points) ∙ ap (λ n. part_by s.role n c s.points) (omega arith)
  where
    or_right : (o : Option Undrawn) → option_or o None ≡ o
    or_right None = refl
    or_right (Some x) = refl
parts_more part c (r ∷ ss) s =
    let here = part_by r.role part c r.points in
    let next = last_of c r.points in
    let after : suc part + length ss ≡ part + length (r ∷ ss) = omega arith in
    ap (option_or here) (parts_more (suc part) next ss s
    ∙ ap (λ n. option_or (parts_fault (suc part) next ss) (part_by s.role n (end_from next ss) s.points)) after)
    ∙ sym (or_assoc here (parts_fault (suc part) next ss) (part_by s.role (part + length (r ∷ ss)) (end_from next ss) s.points))

pub end_more : (c : Point) (ss : List Stroke) (s : Stroke) → end_from c (ss ++ s ∷ []) ≡ last_of (end_from c ss) s.points
end_more c [] s = refl
end_more c (r ∷ ss) s = end_more (last_of c r.points) ss s

-- one part more behind all
all_more : (ss : List Stroke) (s : Stroke)
    → parts_fault 0 origin (ss ++ s ∷ []) ≡ option_or (parts_fault 0 origin ss) (part_by s.role (length ss) (end_from origin ss) s.points)
all_more ss s =
    let count : 0 + length ss ≡ length ss = omega arith in
    parts_more 0 origin ss s ∙ ap (λ n. option_or (parts_fault 0 origin ss) (part_by s.role n (end_from origin ss) s.points)) count

-- parts that broke a rule break it still
pub judged_passed : (ss : List Stroke) (s : Stroke) (undrawn : Undrawn) → AreJudged ss (Err undrawn) → AreJudged (ss ++ s ∷ []) (Err undrawn)
judged_passed ss s undrawn h =
    all_more ss s ∙ option_or-some (parts_fault 0 origin ss) (part_by s.role (length ss) (end_from origin ss) s.points) undrawn h

-- the part that is refused is the first
pub judged_refused : (ss : List Stroke) (s : Stroke) (index : ℕ) (cursor : Point) (undrawn : Undrawn) → length ss ≡ index
    → AreJudged ss (Ok cursor) → part_by s.role index cursor s.points ≡ Some undrawn → AreJudged (ss ++ s ∷ []) (Err undrawn)
judged_refused ss s index cursor undrawn count h broken =
    all_more ss s
    ∙ option_or-none (parts_fault 0 origin ss) (part_by s.role (length ss) (end_from origin ss) s.points) h.0
    ∙ ap (λ n. part_by s.role n (end_from origin ss) s.points) count
    ∙ ap (λ c. part_by s.role index c s.points) (sym h.1) ∙ broken

-- a part that is drawn breaks none
pub judged_drawn : (ss : List Stroke) (s : Stroke) (index : ℕ) (cursor last : Point) → length ss ≡ index
    → AreJudged ss (Ok cursor) → part_by s.role index cursor s.points ≡ None → last ≡ last_of cursor s.points
    → AreJudged (ss ++ s ∷ []) (Ok last)
judged_drawn ss s index cursor last count h none last_is = (
  all_more ss s
      ∙ option_or-none (parts_fault 0 origin ss) (part_by s.role (length ss) (end_from origin ss) s.points) h.0
      ∙ ap (λ n. part_by s.role n (end_from origin ss) s.points) count
      ∙ ap (λ c. part_by s.role index c s.points) (sym h.1) ∙ none,
  last_is ∙ ap (λ c. last_of c s.points) h.1 ∙ sym (end_more origin ss s),
)

pub line_clear : (index : ℕ) (cursor : Point) (line : List Point) → IsStrokeFrom 2 cursor line → part_by None index cursor line ≡ None
line_clear index cursor line from = stroke_clear index 2 cursor line (omega arith) from

pub ring_clear : (index : ℕ) (role : RingRole) (cursor : Point) (ring : List Point) → HasAreaOf role (area2 ring) → IsStrokeFrom 3 cursor ring
    → part_by (Some role) index cursor ring ≡ None
ring_clear index role cursor ring area from =
    option_or-none (stroke_fault index 3 cursor ring) (area_fault index role ring) (stroke_clear index 3 cursor ring (omega arith) from)
    ∙ clear (allows role (area2 ring)) (area_allowed role (area2 ring) area)
  where
    clear : (b : Bool) → b ≡ true → (if b then None else Some (of_part index (area_rule role))) ≡ None
    clear true h = refl
    clear false h = cc
