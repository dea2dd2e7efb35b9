-- Pairs of parameters against the points that they lead to.
use Rattle.std.proofs.Common.{◌≡◌, ◌≢◌, ℕ, zero, suc, ◌+◌, ◌*◌, ◌/◌, ◌%◌, ◌^◌, ◌<◌, Bool, true, false, ◌&&◌, eqb, List, [], ◌∷◌, ◌++◌, length, None, ℤ, pos, negsuc, ◌+ℤ◌, ◌-ℤ◌, ◌≤ℤ◌, to_z, of_z, w32, refl, sym, ap, ap₂, ◌∙◌, ◌⊎◌, inl, inr, arith}
use Rattle.std.specs.Option.{option_or}
use Rattle.std.specs.List.{AllByRecursion}
use Rattle.std.proofs.lemmas.Bool.{cases_eq, ne_eqb, false≢true}
use Rattle.std.proofs.lemmas.Int.{ints, to_z-of_z}
use Rattle.mvt_base.specs.Rules.{first, each}
use Rattle.mvt_base.proofs.RuleLemmas.{option_or-nones, each_first}
use Rattle.mvt_wire.proofs.WireLaws.{zigzag_function_number, zigzag_function_code}
use Rattle.mvt_wire.specs.Zigzag.{zig, unzig}
use Rattle.mvt_geometry.specs.declared.shape.Point.{Point}
use Rattle.mvt_geometry.specs.Shape.{InRange, IsPlace, IsStep, AreSteps, Apart, last_of}
use Rattle.mvt_geometry.specs.Drawing.{path_from}
use Rattle.mvt_geometry.specs.Commands.{Pair, pairs_of, stepped, moved, positions}
use Rattle.mvt_geometry.specs.Table.{step_rules, pair_rules}
use Rattle.mvt_geometry.specs.Inner.Strokes.{pair_between, pairs_between}
use Rattle.mvt_geometry.proofs.StepLemmas.{step_right, step_gives}
use Rattle.mvt_geometry.proofs.WalkLemmas.{moved-append, pair_rule}

-- a coordinate moved by a parameter
pub moved_number : (x z a b : ℤ) (n : ℕ) → a ≡ x → b ≡ z → zig z ≡ n → InRange (x +ℤ unzig n) → to_z w32 (of_z w32 (a +ℤ b)) ≡ x +ℤ unzig n
moved_number x z a b n e f is range =
    let sum : a +ℤ b ≡ x +ℤ unzig n = ap₂ (λ u v. u +ℤ v) e (f ∙ sym (zigzag_function_number z) ∙ ap unzig is) in
    let low : negsuc 2147483646 ≤ℤ (x +ℤ unzig n) = range.low in
    let high : (x +ℤ unzig n) ≤ℤ pos 2147483647 = range.high in
    rw sum (to_z-of_z w32 (x +ℤ unzig n) (omega (arith, ints, low, high)))

-- the difference to a point leads to it, and a parameter is the difference that it makes
back : (a b : ℤ) → a +ℤ (b -ℤ a) ≡ b
back a b = omega (arith, ints)

forth : (a b : ℤ) → (a +ℤ b) -ℤ a ≡ b
forth a b = omega (arith, ints)

pub stepped-between : (p q : Point) → stepped p (pair_between p q) ≡ q
stepped-between p q =
    let x = ap (λ z. p.x +ℤ z) (zigzag_function_number (q.x -ℤ p.x)) ∙ back p.x q.x in
    let y = ap (λ z. p.y +ℤ z) (zigzag_function_number (q.y -ℤ p.y)) ∙ back p.y q.y in
    ap₂ (λ (a b : ℤ). let r : Point = record { x = a; y = b } in r) x y

pub between-stepped : (p : Point) (d : Pair) → pair_between p (stepped p d) ≡ d
between-stepped p d =
    let x = ap zig (forth p.x (unzig d.dx)) ∙ zigzag_function_code d.dx in
    let y = ap zig (forth p.y (unzig d.dy)) ∙ zigzag_function_code d.dy in
    ap₂ (λ (a b : ℕ). let r : Pair = record { dx = a; dy = b } in r) x y

pub positions-between : (c : Point) (ps : List Point) → positions c (pairs_between c ps) ≡ ps
positions-between c [] = refl
positions-between c (p ∷ ps) =
    let here = stepped-between c p in
    ap₂ (λ (q : Point) (r : Point). q ∷ positions r (pairs_between p ps)) here here ∙ ap (λ qs. p ∷ qs) (positions-between p ps)

pub moved-between : (c : Point) (ps : List Point) → moved c (pairs_between c ps) ≡ last_of c ps
moved-between c [] = refl
moved-between c (p ∷ ps) = ap (λ q. moved q (pairs_between p ps)) (stepped-between c p) ∙ moved-between p ps

pub length-positions : (c : Point) (ds : List Pair) → length (positions c ds) ≡ length ds
length-positions c [] = refl
length-positions c (d ∷ ds) = ap suc (length-positions (stepped c d) ds)

pub length-path : (c : Point) (ps : List Point) → length (path_from c ps) ≡ 2 * length ps
length-path c [] = refl
length-path c (p ∷ ps) = let more = length-path p ps in omega (arith, more)

pub pairs-path : (c : Point) (ps : List Point) → pairs_of (path_from c ps) ≡ pairs_between c ps
pairs-path c [] = refl
pairs-path c (p ∷ ps) = ap (λ ds. pair_between c p ∷ ds) (pairs-path p ps)

-- an even list is the path over its pairs
pub path-pairs : (c : Point) (n : ℕ) (xs : List ℕ) → length xs ≡ 2 * n → path_from c (positions c (pairs_of xs)) ≡ xs
path-pairs c zero [] e = refl
path-pairs c zero (x ∷ xs) e = absurd (omega (arith, e))
path-pairs c (suc n) [] e = refl
path-pairs c (suc n) (x ∷ []) e = absurd (omega (arith, e))
path-pairs c (suc n) (x ∷ y ∷ xs) e =
    let d : Pair = record { dx = x; dy = y } in
    let here = between-stepped c d in
    ap₂ (λ (p : Pair) ys. p.dx ∷ p.dy ∷ ys) here (path-pairs (stepped c d) n xs (omega (arith, e)))

-- steps in range are parameters that aren't refused
step_accepted : (z : ℤ) → InRange z → zig z ≢ 4294967295
step_accepted (pos n) h e = let high : pos n ≤ℤ pos 2147483647 = h.high in let is : 2 * n ≡ 4294967295 = e in omega (arith, ints, high, is)
step_accepted (negsuc n) h e =
    let low : negsuc 2147483646 ≤ℤ negsuc n = h.low in
    let is : 2 * n + 1 ≡ 4294967295 = e in
    omega (arith, ints, low, is)

zig_zero : (z : ℤ) → zig z ≡ 0 → z ≡ pos 0
zig_zero (pos n) e = let zero_is : n ≡ 0 = omega (arith, e) in ap pos zero_is
zig_zero (negsuc n) e = absurd (omega (arith, e))

same_number : (a b : ℤ) → b -ℤ a ≡ pos 0 → a ≡ b
same_number a b e = omega (arith, ints, e)

-- a line that leads to another point isn't (0,0)
goes_away : (line : Bool) (p q : Point) → (line ≡ true → p ≢ q) → (line && (eqb (zig (q.x -ℤ p.x)) 0 && eqb (zig (q.y -ℤ p.y)) 0)) ≡ false
goes_away false p q apart = refl
goes_away true p q apart = by_x (cases_eq (zig (q.x -ℤ p.x)) 0)
  where
    by_y : zig (q.x -ℤ p.x) ≡ 0 → (zig (q.y -ℤ p.y) ≡ 0) ⊎ (zig (q.y -ℤ p.y) ≢ 0)
        → (eqb (zig (q.x -ℤ p.x)) 0 && eqb (zig (q.y -ℤ p.y)) 0) ≡ false
    by_y x (inl y) =
        absurd (apart refl (ap₂ (λ (a b : ℤ). let r : Point = record { x = a; y = b } in
        r) (same_number p.x q.x (zig_zero _ x)) (same_number p.y q.y (zig_zero _ y))))
    by_y x (inr y) = rw (x, ne_eqb (zig (q.y -ℤ p.y)) 0 y) refl

    by_x : (zig (q.x -ℤ p.x) ≡ 0) ⊎ (zig (q.x -ℤ p.x) ≢ 0) → (eqb (zig (q.x -ℤ p.x)) 0 && eqb (zig (q.y -ℤ p.y)) 0) ≡ false
    by_x (inl x) = by_y x (cases_eq (zig (q.y -ℤ p.y)) 0)
    by_x (inr x) = rw (ne_eqb (zig (q.x -ℤ p.x)) 0 x) refl

moved-push : (from : Point) (front : List Pair) (c : Point) (d : Pair) → moved from front ≡ c → moved from (front ++ d ∷ []) ≡ stepped c d
moved-push from front c d e = moved-append from front (d ∷ []) ∙ ap (λ p. stepped p d) e

-- the pairs of a path break no rule
pub path_calm : (line : Bool) (at : ℕ) (from : Point) (front : List Pair) (c : Point) (ps : List Point) → moved from front ≡ c
    → AllByRecursion IsPlace ps → AreSteps c ps → (line ≡ true → Apart (c ∷ ps))
    → first (each (pair_rules line at from) front (pairs_between c ps)) ≡ None
path_calm line at from front c [] e places small apart = refl
path_calm line at from front c (p ∷ ps) e places small apart =
    let d = pair_between c p in
    let here = moved-push from front c d e ∙ stepped-between c p in
    let rule =
    pair_rule line at from front d
    ∙ ap (step_rules line (at + 2 * length front) d) (ap (λ q. stepped q d) e ∙ stepped-between c p) in
    let calm =
    step_right line (at + 2 * length front) d p (step_accepted (p.x -ℤ c.x) small.0.0)
    (step_accepted (p.y -ℤ c.y) small.0.1) (goes_away line c p (λ is. (apart is).0)) places.0 in
    each_first (pair_rules line at from) front d (pairs_between p ps)
    ∙ ap₂ option_or (ap first rule ∙ calm)
    (path_calm line at from (front ++ d ∷ []) p ps here places.1 small.1 (λ is. (apart is).1))

-- parameters of 32 bits that aren't refused move by what they can say
moves_by : (n : ℕ) → n < 2 ^ 32 → n ≢ 4294967295 → InRange (unzig n)
moves_by n small other = by_parity (cases_eq (n % 2) 0)
  where
    by_parity : (n % 2 ≡ 0) ⊎ (n % 2 ≢ 0) → InRange (unzig n)
    by_parity (inl e) =
        let h : n / 2 < 2147483648 = omega (arith, small) in
        rw e (record { low = omega (arith, ints); high = omega (arith, ints) })
    by_parity (inr o) =
        let t : eqb (n % 2) 0 ≡ false = ne_eqb (n % 2) 0 o in
        let h : n / 2 < 2147483647 = odd_half n small other o in
        rw t (record { low = omega (arith, ints); high = omega (arith, ints) })
      where
        odd_half : (n : ℕ) → n < 2 ^ 32 → n ≢ 4294967295 → n % 2 ≢ 0 → n / 2 < 2147483647
        odd_half n small other o = omega (arith, small, other, o)

nowhere : (a : ℤ) → a -ℤ a ≡ pos 0
nowhere a = omega (arith, ints)

-- and a pair other than (0,0) leads to another point
moves_away : (line : Bool) (c : Point) (d : Pair) → (line && (eqb d.dx 0 && eqb d.dy 0)) ≡ false → line ≡ true → c ≢ stepped c d
moves_away line c d goes is same =
    let x = sym (ap (λ (e : Pair). e.dx) (between-stepped c d)) ∙ ap (λ (q : Point). zig (q.x -ℤ c.x)) (sym same) ∙ ap zig (nowhere c.x) in
    let y = sym (ap (λ (e : Pair). e.dy) (between-stepped c d)) ∙ ap (λ (q : Point). zig (q.y -ℤ c.y)) (sym same) ∙ ap zig (nowhere c.y) in
    false≢true (sym goes ∙ ap₂ (λ a b. a && b) is (ap₂ (λ m n. eqb m 0 && eqb n 0) x y))

abbrev pub SmallPair : Pair → Type 0
SmallPair d = (d.dx < 2 ^ 32) × (d.dy < 2 ^ 32)

-- a pair that breaks no rule leads to a place, by a step, and as a line away
pub calm_step : (line : Bool) (at : ℕ) (c : Point) (d : Pair) → SmallPair d → first (step_rules line at d (stepped c d)) ≡ None
    → IsPlace (stepped c d) × IsStep c (stepped c d) × (line ≡ true → c ≢ stepped c d)
calm_step line at c d small none =
    let step = step_gives line at d (stepped c d) none in
    let in_x : InRange ((c.x +ℤ unzig d.dx) -ℤ c.x) = rw (forth c.x (unzig d.dx)) (moves_by d.dx small.0 step.0) in
    let in_y : InRange ((c.y +ℤ unzig d.dy) -ℤ c.y) = rw (forth c.y (unzig d.dy)) (moves_by d.dy small.1 step.1) in
    (step.3, (in_x, in_y), moves_away line c d step.2)

-- pairs that break no rule lead over places, by steps, and as lines away from each point
pub calm_path : (line : Bool) (at : ℕ) (from : Point) (front : List Pair) (c : Point) (ds : List Pair) → moved from front ≡ c
    → AllByRecursion SmallPair ds → first (each (pair_rules line at from) front ds) ≡ None
    → AllByRecursion IsPlace (positions c ds) × AreSteps c (positions c ds) × (line ≡ true → Apart (c ∷ positions c ds))
calm_path line at from front c [] e small none = (tt, tt, λ is. tt)
calm_path line at from front c (d ∷ ds) e small none =
    let parts = option_or-nones _ _ (sym (each_first (pair_rules line at from) front d ds) ∙ none) in
    let rule = pair_rule line at from front d ∙ ap (step_rules line (at + 2 * length front) d) (ap (λ q. stepped q d) e) in
    let step = calm_step line (at + 2 * length front) c d small.0 (sym (ap first rule) ∙ parts.0) in
    let more = calm_path line at from (front ++ d ∷ []) (stepped c d) ds (moved-push from front c d e) small.1 parts.1 in
    ((step.0, more.0), (step.1, more.1), λ is. (step.2 is, more.2 is))
