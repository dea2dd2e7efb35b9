use Rattle.std.proofs.Common.{◌-◌, length}
use Rattle.mvt_message.specs.Copying.{AreValuesFrom}
use Rattle.mvt_message.proofs.layer_frame.values_from.Given as goal

abbrev pub invariant-loop-value : goal.invariant-loop-value
invariant-loop-value l = AreValuesFrom l.body l.start l.values.items l.at

abbrev pub decreases-loop-value : goal.decreases-loop-value
decreases-loop-value l = length l.body - l.at
