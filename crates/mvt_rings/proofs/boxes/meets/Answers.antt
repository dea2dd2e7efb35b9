use Rattle.std.proofs.Common.{rules, ◌≡◌, true}
use Rattle.mvt_rings.specs.Boxes.{meets, overlap}
use Rattle.mvt_rings.proofs.boxes.meets.Goals as goal

pub returns-then-overlap : goal.returns-then-overlap
unfolding meets
returns-then-overlap c =
    let beside : overlap c.args.a.left c.args.a.right c.args.b.left c.args.b.right ≡ true = search rules in rw beside (search rules)
