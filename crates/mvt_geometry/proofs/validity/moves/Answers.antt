use Rattle.std.proofs.Common.{arith, ◌≡◌, ◌-ℤ◌, sym, subst, to_z, of_z, w64}
use Rattle.std.proofs.lemmas.Int.{ints}
use Rattle.mvt_geometry.specs.Shape.{InRange}
use Rattle.mvt_geometry.proofs.validity.moves.Goals as goal

pub returns-then-is_in_range : goal.returns-then-is_in_range
returns-then-is_in_range c =
    let to : to_z w64 (of_z w64 c.from-to.result) ≡ c.args.to = omega (arith, ints) in
    let by : to_z w64 (of_z w64 (to_z w64 (of_z w64 c.from-to.result) -ℤ to_z w64 (of_z w64 c.from-from.result)))
    ≡ c.args.to -ℤ c.args.from =
    omega (arith, ints) in (
      λ t. (
        subst InRange to (c.is_in_range.ensures.0 c.if-is_in_range.true),
        subst InRange by
            (c.is_in_range-then-is_in_range.ensures.0 t),
      ),
      λ h. c.is_in_range-then-is_in_range.ensures.1 (subst InRange (sym by) h.1),
    )
