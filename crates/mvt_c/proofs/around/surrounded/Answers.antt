use Rattle.std.proofs.Common.{◌∙◌, ap, map}
use Rattle.mvt_c.specs.Around.{row_of_step}
use Rattle.mvt_c.proofs.around.surrounded.Goals as goal

pub returns-clause-around : goal.returns-clause-around
returns-clause-around c =
    let steps = c.in_ok-steps.ensures ∙ ap (map row_of_step) c.as_slice.ensures.value in
    (c.meant.result, c.meant.ensures, c.in_ok-around.around, c.in_ok-around.ensures, c.told.ensures.told steps)
