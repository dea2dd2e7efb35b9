use Rattle.std.proofs.Common.{rules, ◌≡◌, true, sym, ◌∙◌}
use Rattle.mvt_rings.specs.Signs.{is_negative}
use Rattle.mvt_rings.specs.Turning.{as_exterior}
use Rattle.mvt_rings.proofs.turning.as_exterior.Goals as goal

pub returns-then-is_negative : goal.returns-then-is_negative
unfolding as_exterior
returns-then-is_negative c =
    let turns : is_negative c.args.ring.now ≡ true = sym c.is_negative.ensures ∙ c.if-is_negative.true in rw turns c.turned.ensures

pub returns : goal.returns
unfolding as_exterior
returns c = search rules
