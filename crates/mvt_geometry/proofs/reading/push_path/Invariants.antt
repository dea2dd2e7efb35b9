use Rattle.std.proofs.Common.{length}
use Rattle.mvt_geometry.proofs.BuildLemmas.{IsPushed}
use Rattle.mvt_geometry.proofs.reading.push_path.Given as goal

abbrev pub invariant-loop-rest : goal.invariant-loop-rest
invariant-loop-rest l = IsPushed l.initial.points.items l.fn.from l.parameters l.points.items l.cursor l.rest

abbrev pub decreases-loop-rest : goal.decreases-loop-rest
decreases-loop-rest l = length l.rest
