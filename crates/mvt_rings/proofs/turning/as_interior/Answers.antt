use Rattle.std.proofs.Common.{rules, ◌≡◌, true, sym, ◌∙◌}
use Rattle.mvt_rings.specs.Signs.{is_positive}
use Rattle.mvt_rings.specs.Turning.{as_interior}
use Rattle.mvt_rings.proofs.turning.as_interior.Goals as goal

pub returns-then-is_positive : goal.returns-then-is_positive
unfolding as_interior
returns-then-is_positive c =
    let turns : is_positive c.args.ring.now ≡ true = sym c.is_positive.ensures ∙ c.if-is_positive.true in rw turns c.turned.ensures

pub returns : goal.returns
unfolding as_interior
returns c = search rules
