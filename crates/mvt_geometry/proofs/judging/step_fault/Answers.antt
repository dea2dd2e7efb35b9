use Rattle.std.proofs.Common.{rules, ◌≡◌, ◌&&◌, ◌⊎◌, inl, inr, eqb, Bool, false, true, refl, sym, ◌∙◌, to_z, of_z, w32}
use Rattle.std.proofs.lemmas.Bool.{false≢true}
use Rattle.mvt_geometry.specs.Shape.{IsPlace}
use Rattle.mvt_geometry.specs.Commands.{Pair, stepped}
use Rattle.mvt_geometry.proofs.StepLemmas.{refused_x, refused_y, stays, leaves_x, leaves_y, step_right}
use Rattle.mvt_geometry.proofs.judging.step_fault.Goals as goal
use Rattle.mvt_geometry.proofs.judging.step_fault.Goals.{else-is_line-via-then-is_line+else-is_zero, else-is_line-via-else-is_line}

pub returns-then-dx-eq-REFUSED-clause-some : goal.returns-then-dx-eq-REFUSED-clause-some
returns-then-dx-eq-REFUSED-clause-some c = refused_x _ _ _ _ c.if-dx-eq-REFUSED.true

pub returns-then-dy-eq-REFUSED-clause-some : goal.returns-then-dy-eq-REFUSED-clause-some
returns-then-dy-eq-REFUSED-clause-some c = refused_y _ _ _ _ c.if-dx-eq-REFUSED.false c.if-dy-eq-REFUSED.true

pub returns-then-is_zero-clause-some : goal.returns-then-is_zero-clause-some
returns-then-is_zero-clause-some c =
    stays _ _ _ _ c.if-dx-eq-REFUSED.false c.if-dy-eq-REFUSED.false (rw c.if-is_line.true (sym c.is_zero.ensures ∙ c.if-is_zero.true))

goes_on : (line zero : Bool) → ((line ≡ true) × (zero ≡ false)) ⊎ (line ≡ false) → (line && zero) ≡ false
goes_on line zero (inl h) = rw (h.0, h.1) refl
goes_on line zero (inr h) = rw h refl

pub returns-then-not-stays_inside-clause-some : goal.returns-then-not-stays_inside-clause-some
returns-then-not-stays_inside-clause-some c =
    let goes = goes_on c.args.is_line (eqb c.args.dx 0 && eqb c.args.dy 0)
    (elim c.else-is_line.branch [
      | else-is_line-via-then-is_line+else-is_zero w ↦
          inl (w.if-is_line.true, sym w.is_zero.ensures ∙ w.if-is_zero.false)
      | else-is_line-via-else-is_line w ↦ inr w.if-is_line.false
    ]) in
    let x : to_z w32 (of_z w32 c.args.from.x) ≡ c.args.from.x = search rules in
    let inside = rw x at c.stays_inside.ensures in
    leaves_x _ _ _ _ c.if-dx-eq-REFUSED.false c.if-dy-eq-REFUSED.false goes (λ h. false≢true (sym c.if-not-stays_inside.true ∙ inside.1 h))

pub returns-then-not-stays_inside-2-clause-some : goal.returns-then-not-stays_inside-2-clause-some
returns-then-not-stays_inside-2-clause-some c =
    let goes = goes_on c.args.is_line (eqb c.args.dx 0 && eqb c.args.dy 0)
    (elim c.else-is_line.branch [
      | else-is_line-via-then-is_line+else-is_zero w ↦
          inl (w.if-is_line.true, sym w.is_zero.ensures ∙ w.if-is_zero.false)
      | else-is_line-via-else-is_line w ↦ inr w.if-is_line.false
    ]) in
    let x : to_z w32 (of_z w32 c.args.from.x) ≡ c.args.from.x = search rules in
    let y : to_z w32 (of_z w32 c.args.from.y) ≡ c.args.from.y = search rules in
    let inside_x = rw x at c.stays_inside.ensures in
    let inside_y = rw y at c.stays_inside-2.ensures in
    leaves_y _ _ _ _ c.if-dx-eq-REFUSED.false c.if-dy-eq-REFUSED.false goes (inside_x.0 c.if-not-stays_inside.false)
    (λ h. false≢true (sym c.if-not-stays_inside-2.true ∙ inside_y.1 h))

pub returns-clause-none : goal.returns-clause-none
returns-clause-none c =
    let goes = goes_on c.args.is_line (eqb c.args.dx 0 && eqb c.args.dy 0)
    (elim c.else-is_line.branch [
      | else-is_line-via-then-is_line+else-is_zero w ↦
          inl (w.if-is_line.true, sym w.is_zero.ensures ∙ w.if-is_zero.false)
      | else-is_line-via-else-is_line w ↦ inr w.if-is_line.false
    ]) in
    let x : to_z w32 (of_z w32 c.args.from.x) ≡ c.args.from.x = search rules in
    let y : to_z w32 (of_z w32 c.args.from.y) ≡ c.args.from.y = search rules in
    let inside_x = rw x at c.stays_inside.ensures in
    let inside_y = rw y at c.stays_inside-2.ensures in
    let place : IsPlace (stepped c.args.from (let d : Pair = record { dx = c.args.dx; dy = c.args.dy } in d)) =
    (inside_x.0 c.if-not-stays_inside.false, inside_y.0 c.if-not-stays_inside-2.false) in
    (step_right _ _ _ _ c.if-dx-eq-REFUSED.false c.if-dy-eq-REFUSED.false goes place, place)
