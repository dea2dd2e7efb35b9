use Rattle.std.proofs.Common.{rules, ◌≡◌, true}
use Rattle.mvt_rings.specs.Boxes.{overlap}
use Rattle.mvt_rings.specs.Clear.{is_in}
use Rattle.mvt_rings.proofs.clear.is_in.Goals as goal

pub returns-then-overlap : goal.returns-then-overlap
unfolding is_in
returns-then-overlap c =
    let beside : overlap c.args.bounds.left c.args.bounds.right c.args.point.x c.args.point.x ≡ true = search rules in
    rw beside (search rules)
