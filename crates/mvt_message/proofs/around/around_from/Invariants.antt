use Rattle.std.proofs.Common.{◌≤◌, ◌-◌, length}
use Rattle.mvt_message.specs.Around.{AreAroundFrom}
use Rattle.mvt_message.proofs.around.around_from.Given as goal

abbrev pub invariant-loop-more : goal.invariant-loop-more
invariant-loop-more l = (l.at ≤ length l.body) × AreAroundFrom l.body l.start l.before l.around l.at

abbrev pub decreases-loop-more : goal.decreases-loop-more
decreases-loop-more l = length l.body - l.at
