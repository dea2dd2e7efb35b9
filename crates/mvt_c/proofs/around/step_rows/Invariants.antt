use Rattle.std.proofs.Common.{◌≡◌, map, take}
use Rattle.mvt_c.specs.Around.{row_of_step}
use Rattle.mvt_c.proofs.around.step_rows.Given as goal

abbrev pub invariant-loop-step : goal.invariant-loop-step
invariant-loop-step l = l.rows.items ≡ map row_of_step (take l.step-index l.steps)
