use Rattle.std.proofs.Common.{rules, ◌≡◌, true, false}
use Rattle.mvt_rings.specs.Nesting.{is_on, is_between, in_parts}
use Rattle.mvt_rings.proofs.nesting.is_on.Goals as goal

pub returns-then-not-is_between-2 : goal.returns-then-not-is_between-2
unfolding is_on
returns-then-not-is_between-2 c =
    let level : is_between c.args.spot.y (in_parts 2 c.args.edge.from.y) (in_parts 2 c.args.edge.to.y) ≡ true = search rules in
    let apart : is_between c.args.spot.x (in_parts 2 c.args.edge.from.x) (in_parts 2 c.args.edge.to.x) ≡ false = search rules in
    rw (level, apart)

pub returns : goal.returns
unfolding is_on
returns c =
    let level : is_between c.args.spot.y (in_parts 2 c.args.edge.from.y) (in_parts 2 c.args.edge.to.y) ≡ true = search rules in
    let near : is_between c.args.spot.x (in_parts 2 c.args.edge.from.x) (in_parts 2 c.args.edge.to.x) ≡ true = search rules in
    rw (level, near) (search rules)
