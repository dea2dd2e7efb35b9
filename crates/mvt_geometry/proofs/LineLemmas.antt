-- Geometries of lines: integers without a fault draw some, and integers that draw some have no fault.
use Rattle.std.proofs.Common.{◌≡◌, ◌≢◌, ℕ, zero, suc, ◌+◌, ◌-◌, ◌%◌, ◌<◌, ◌≤◌, false, eqb, List, [], ◌∷◌, ◌++◌, length, drop, Some, None, refl, ap, ◌∙◌, ◌⊎◌, inl, inr, arith, length-drop, ne_eqb}
use Rattle.std.specs.List.{AllByRecursion}
use Rattle.std.proofs.lemmas.Bool.{cases_lt}
use Rattle.std.proofs.lemmas.List.{drop_all}
use Rattle.mvt_geometry.specs.declared.shape.Point.{Point}
use Rattle.mvt_geometry.specs.declared.shape.Kind.TheVariants as kinds
use Rattle.mvt_geometry.specs.declared.command.Command.TheVariants.{MoveTo, LineTo, ClosePath}
use Rattle.mvt_geometry.specs.Shape.{AreSteps, joined, last_of}
use Rattle.mvt_geometry.specs.Valid.{IsStroke}
use Rattle.mvt_geometry.specs.Commands.{due, may_not_end}
use Rattle.mvt_geometry.specs.Table.{geometry_fault}
use Rattle.mvt_geometry.specs.Inner.Judging.{Reached}
use Rattle.mvt_geometry.specs.Inner.Strokes.{AreSmall, FoundStroke}
use Rattle.mvt_geometry.proofs.CommandLemmas.{may_end}
use Rattle.mvt_geometry.proofs.StrokeLemmas.{lines_have, stroke_found, stroke_drawn, steps-append, steps-front, steps-back}
use Rattle.mvt_geometry.specs.Drawing.{stroke, strokes}

pub line_due : (k : ℕ) → k % 2 ≡ 0 → (due kinds.LineString k ≡ Some MoveTo) × (due kinds.LineString (suc k) ≡ Some LineTo)
line_due k e = let one : suc k % 2 ≡ 1 = omega (arith, e) in (rw e refl, rw one refl)

pub lines_may_end : (k : ℕ) → k % 2 ≡ 0 → 0 < k → (may_not_end kinds.LineString k ≡ false) × (due kinds.LineString k ≢ Some ClosePath)
lines_may_end k e some = let n : eqb k 0 ≡ false = ne_eqb k 0 (omega arith) in rw (e, n) (refl, λ same. cc)

-- the lines that stand from here
pub record FoundLines (g : List ℕ) (s : ℕ) (c : Point) : Type 0 where
  pub lines : List (List Point)
  pub are : AllByRecursion (IsStroke 2) lines
  pub small_steps : AreSteps c (joined lines)
  pub spelled : drop s g ≡ strokes [] c lines
  pub some : s < length g → 0 < length lines

no_lines : (g : List ℕ) (s : ℕ) (c : Point) → length g ≤ s → FoundLines g s c
no_lines g s c h = record { lines = []; are = tt; small_steps = tt; spelled = drop_all s g h; some = λ here. absurd (omega arith) }

one_line : (g : List ℕ) (k s : ℕ) (c : Point) → s < length g → (f : FoundStroke kinds.LineString 2 g k s c)
    → FoundLines g f.end (last_of f.head f.tail) → FoundLines g s c
one_line g k s c h f more = record {
  lines = (f.head ∷ f.tail) ∷ more.lines;
  are = (f.is, more.are);
  small_steps = steps-append c (f.head ∷ f.tail) (joined more.lines) f.small_steps more.small_steps;
  spelled = f.spelled ∙ ap (λ xs. stroke [] c (f.head ∷ f.tail) ++ xs) more.spelled;
  some = λ here. omega arith;
}

pub lines_found : (g : List ℕ) → geometry_fault kinds.LineString g ≡ None → AreSmall g → (n k s : ℕ) (c : Point)
    → length g - s ≤ n → Reached kinds.LineString g k s c → k % 2 ≡ 0 → FoundLines g s c
lines_found g none small zero k s c bound r e = no_lines g s c (omega (arith, bound))
lines_found g none small (suc n) k s c bound r e =
    at_place (cases_lt s (length g)) (λ j t d bound r e. lines_found g none small n j t d bound r e)
  where
    at_place : (s < length g) ⊎ (length g ≤ s)
        → ((j t : ℕ) (d : Point) → length g - t ≤ n → Reached kinds.LineString g j t d → j % 2 ≡ 0 → FoundLines g t d)
        → FoundLines g s c
    at_place (inr h) again = no_lines g s c h
    at_place (inl h) again =
        let f = stroke_found lines_have r (line_due k e).0 (line_due k e).1 none h small in
        one_line g k s c h f (again (suc (suc k)) f.end (last_of f.head f.tail) (omega (arith, bound, f.further)) f.next (omega (arith, e)))

pub lines_drawn : (g : List ℕ) (ls : List (List Point)) (k s : ℕ) (c : Point) → Reached kinds.LineString g k s c → k % 2 ≡ 0
    → 0 < k + length ls → AllByRecursion (IsStroke 2) ls → AreSteps c (joined ls) → drop s g ≡ strokes [] c ls
    → geometry_fault kinds.LineString g ≡ None
lines_drawn g [] k s c r e some are small spelled =
    let over : length g ≤ s = omega (arith, length-drop s g, ap length spelled) in
    let may = lines_may_end k e (omega arith) in
    may_end (λ same. cc) r over may.0 may.1
lines_drawn g ([] ∷ ls) k s c r e some are small spelled = absurd (omega (arith, are.0.enough))
lines_drawn g ((p ∷ ps) ∷ ls) k s c r e some are small spelled =
    let next =
    stroke_drawn lines_have r (line_due k e).0 (line_due k e).1 p ps (strokes [] (last_of p ps) ls) are.0
    (steps-front c (p ∷ ps) (joined ls) small) spelled in
    lines_drawn g ls (suc (suc k)) next.0 (last_of p ps) next.1 (omega (arith, e)) (omega arith) are.1
    (steps-back c (p ∷ ps) (joined ls) small) next.2
