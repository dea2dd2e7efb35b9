use Rattle.std.proofs.Common.{arith, ◌≡◌, ◌+ℤ◌, sym, ap, subst, ◌∙◌, to_z, of_z, w64}
use Rattle.std.proofs.lemmas.Int.{ints}
use Rattle.mvt_geometry.specs.Shape.{InRange}
use Rattle.mvt_wire.specs.Zigzag.{unzig}
use Rattle.mvt_wire.proofs.WireLaws.{zigzag_function_number}
use Rattle.mvt_geometry.proofs.judging.stays_inside.Goals as goal

pub returns : goal.returns
returns c =
    let by : c.unzigzag32.result ≡ unzig c.args.parameter =
    sym (zigzag_function_number c.unzigzag32.result) ∙ ap unzig c.unzigzag32.ensures in
    let sum : to_z w64 (of_z w64 (to_z w64 (of_z w64 c.from.result) +ℤ to_z w64 (of_z w64 c.from-2.result)))
    ≡ c.args.from +ℤ c.unzigzag32.result =
    omega (arith, ints) in
    let to = sum ∙ ap (λ z. c.args.from +ℤ z) by in
    (λ t. subst InRange to (c.is_in_range.ensures.0 t), λ h. c.is_in_range.ensures.1 (subst InRange (sym to) h))
