use Rattle.std.proofs.Common.{rules, ◌≡◌, Some, sym, ap, ap₂, ◌∙◌, ℤ, to_z, of_z, w32}
use Rattle.mvt_geometry.specs.declared.shape.Point.{Point}
use Rattle.mvt_mend.specs.Reading.{moved}
use Rattle.mvt_mend.proofs.ReadingLemmas.{no_x, no_y, one_step}
use Rattle.mvt_mend.proofs.reading.step.Goals as goal

pub returns-in_default : goal.returns-in_default
returns-in_default c =
    let x : to_z w32 (of_z w32 c.args.from.x) ≡ c.args.from.x = search rules in
    no_x c.args.from _ _ (sym (ap (λ z. moved z c.args.dx) x) ∙ sym c.moved.ensures ∙ c.in_default.is)

pub returns-in_default-moved : goal.returns-in_default-moved
returns-in_default-moved c =
    let x : to_z w32 (of_z w32 c.args.from.x) ≡ c.args.from.x = search rules in
    let y : to_z w32 (of_z w32 c.args.from.y) ≡ c.args.from.y = search rules in
    no_y c.args.from _ _ _ (sym (ap (λ z. moved z c.args.dx) x) ∙ sym c.moved.ensures ∙ c.in-Some.is)
    (sym (ap (λ z. moved z c.args.dy) y) ∙ sym c.moved-2.ensures ∙ c.in_default-moved.is)

pub returns : goal.returns
returns c =
    let x : to_z w32 (of_z w32 c.args.from.x) ≡ c.args.from.x = search rules in
    let y : to_z w32 (of_z w32 c.args.from.y) ≡ c.args.from.y = search rules in
    let to_x : to_z w32 (of_z w32 c.in-Some.x) ≡ c.in-Some.x = search rules in
    let to_y : to_z w32 (of_z w32 c.in-Some-moved.y) ≡ c.in-Some-moved.y = search rules in
    ap₂ (λ (a b : ℤ). let p : Point = record { x = a; y = b } in Some p) to_x to_y
    ∙ one_step c.args.from _ _ _ _ (sym (ap (λ z. moved z c.args.dx) x) ∙ sym c.moved.ensures ∙ c.in-Some.is)
    (sym (ap (λ z. moved z c.args.dy) y) ∙ sym c.moved-2.ensures ∙ c.in-Some-moved.is)
