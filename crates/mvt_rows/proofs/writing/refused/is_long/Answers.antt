use Rattle.std.proofs.Common.{arith, ◌≡◌, ◌-ℤ◌, ap, ◌∙◌, to_z, of_z, w64}
use Rattle.std.proofs.lemmas.Int.{ints}
use Rattle.mvt_geometry.specs.Shape.{wide}
use Rattle.mvt_geometry.specs.Table.{is_outside}
use Rattle.mvt_rows.proofs.writing.refused.is_long.Goals as goal

pub returns : goal.returns
returns c =
    let by : to_z w64 (of_z w64 (to_z w64 (of_z w64 c.from-to.result) -ℤ to_z w64 (of_z w64 c.from-from.result)))
    ≡ c.args.to -ℤ c.args.from =
    omega (arith, ints) in
    c.is_outside.ensures ∙ ap (is_outside wide) by
