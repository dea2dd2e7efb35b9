use Rattle.std.proofs.Common.{◌+◌, ◌*◌, [], ◌∷◌, subst}
use Rattle.mvt_geometry.specs.Inner.Telling.{SpellsFront}
use Rattle.mvt_geometry.proofs.TellingLemmas.{spells_both}
use Rattle.mvt_geometry.proofs.packed.line_front.Goals as goal

pub returns-clause-head : goal.returns-clause-head
returns-clause-head g c =
    let pair = c.in_ok-point.ensures.pair in
    let one =
    subst (λ n. SpellsFront g.I.Integers.are c.args.integers ((1 + 8 * n) ∷ []) c.in_ok-points.pair) c.if-points-ne1.false
    c.in_ok-points.ensures.spelled in
    record {
      step = pair.step;
      enough = c.if-count-least.false;
      few = c.in_ok-count.ensures.few;
      spelled = spells_both one (spells_both pair.spelled c.in_ok-count.ensures.spelled);
    }
