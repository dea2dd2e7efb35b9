use Rattle.std.proofs.Common.{◌-◌, length}
use Rattle.mvt_view.specs.Runs.{RunsTo}
use Rattle.mvt_view.proofs.quoted.clean_blocks.Given as goal

abbrev pub invariant-loop-end : goal.invariant-loop-end
invariant-loop-end l = RunsTo l.bytes l.from l.end

abbrev pub decreases-loop-end : goal.decreases-loop-end
decreases-loop-end l = length l.bytes - l.end
