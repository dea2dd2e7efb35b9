use Rattle.std.proofs.Common.{rules, ◌≡◌, ◌-ℤ◌, pos, not, true}
use Rattle.std.specs.Int.Signed.{lt_z}
use Rattle.mvt_rings.specs.Boxes.{greater}
use Rattle.mvt_rings.specs.Placing.{is_level_with}
use Rattle.mvt_rings.proofs.placing.is_level_with.Goals as goal

pub returns-then-is_just_above : goal.returns-then-is_just_above
unfolding is_level_with
returns-then-is_just_above c =
    let low : not (lt_z (greater c.args.edge.from.y c.args.edge.to.y) (c.args.bounds.top -ℤ pos 1)) ≡ true = search rules in
    rw low (search rules)
