use Rattle.std.proofs.Common.{arith, ◌≡◌, ◌+ℤ◌, Some, sym, ap, ◌∙◌, to_z, of_z, w64}
use Rattle.std.proofs.lemmas.Int.{ints}
use Rattle.mvt_wire.specs.Zigzag.{unzig}
use Rattle.mvt_wire.proofs.WireLaws.{zigzag_function_number}
use Rattle.mvt_geometry.specs.Shape.{wide}
use Rattle.mvt_geometry.specs.Table.{is_outside}
use Rattle.mvt_mend.proofs.ReadingLemmas.{fits, moved_refused, moved_outside, moved_inside}
use Rattle.mvt_mend.proofs.reading.moved.Goals as goal

pub returns-then-parameter-eq-REFUSED : goal.returns-then-parameter-eq-REFUSED
returns-then-parameter-eq-REFUSED c = moved_refused _ _ c.if-parameter-eq-REFUSED.true

pub returns-then-is_outside : goal.returns-then-is_outside
returns-then-is_outside c =
    let by : c.unzigzag32.result ≡ unzig c.args.parameter =
    sym (zigzag_function_number c.unzigzag32.result) ∙ ap unzig c.unzigzag32.ensures in
    let sum : to_z w64 (of_z w64 (to_z w64 (of_z w64 c.from.result) +ℤ to_z w64 (of_z w64 c.from-2.result)))
    ≡ c.args.from +ℤ c.unzigzag32.result =
    omega (arith, ints) in
    let to = sum ∙ ap (λ z. c.args.from +ℤ z) by in
    moved_outside _ _ c.if-parameter-eq-REFUSED.false
    (sym (ap (λ z. is_outside wide z) to) ∙ sym c.is_outside.ensures.is ∙ c.if-is_outside.true)

pub returns : goal.returns
returns c =
    let by : c.unzigzag32.result ≡ unzig c.args.parameter =
    sym (zigzag_function_number c.unzigzag32.result) ∙ ap unzig c.unzigzag32.ensures in
    let sum : to_z w64 (of_z w64 (to_z w64 (of_z w64 c.from.result) +ℤ to_z w64 (of_z w64 c.from-2.result)))
    ≡ c.args.from +ℤ c.unzigzag32.result =
    omega (arith, ints) in
    let to = sum ∙ ap (λ z. c.args.from +ℤ z) by in
    let within = sym (ap (λ z. is_outside wide z) to) ∙ sym c.is_outside.ensures.is ∙ c.if-is_outside.false in
    ap Some (fits _ (c.is_outside.ensures.inside c.if-is_outside.false) ∙ to)
    ∙ moved_inside _ _ c.if-parameter-eq-REFUSED.false within
