use Rattle.std.proofs.Common.{◌≤◌, ◌-◌, length}
use Rattle.mvt_message.proofs.layer_frame.after_features.Given as goal

abbrev pub invariant-loop-after : goal.invariant-loop-after
invariant-loop-after l = (l.at ≤ length l.body) × (l.start ≤ l.at)

abbrev pub decreases-loop-after : goal.decreases-loop-after
decreases-loop-after l = length l.body - l.at
