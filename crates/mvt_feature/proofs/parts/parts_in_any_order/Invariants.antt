use Rattle.std.proofs.Common.{◌≤◌, ◌-◌, length}
use Rattle.mvt_feature.specs.Ordering.{AreMet}
use Rattle.mvt_feature.proofs.parts.parts_in_any_order.Given as goal

abbrev pub invariant-loop-at : goal.invariant-loop-at
invariant-loop-at l = (l.at ≤ length l.payload) × AreMet l.payload l.at l.parts

abbrev pub decreases-loop-at : goal.decreases-loop-at
decreases-loop-at l = length l.payload - l.at
