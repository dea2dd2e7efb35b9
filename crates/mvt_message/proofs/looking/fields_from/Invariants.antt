use Rattle.std.proofs.Common.{◌≤◌, ◌-◌, length}
use Rattle.mvt_message.specs.Copying.{AreFieldsFrom}
use Rattle.mvt_message.proofs.looking.fields_from.Given as goal

abbrev pub invariant-loop-count : goal.invariant-loop-count
invariant-loop-count l = (l.at ≤ length l.body) × (l.count ≤ 65536) × AreFieldsFrom l.body l.start l.number l.count l.at

abbrev pub decreases-loop-count : goal.decreases-loop-count
decreases-loop-count l = length l.body - l.at
