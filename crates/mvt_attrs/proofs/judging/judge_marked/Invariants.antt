use Rattle.std.proofs.Common.{◌+◌, ◌≤◌, length}
use Rattle.mvt_attrs.specs.FirstUses.{lent}
use Rattle.mvt_attrs.specs.Inner.Marking.{AreBelow}
use Rattle.mvt_attrs.proofs.JudgingLemmas.{MarkedSoFar}
use Rattle.mvt_attrs.proofs.judging.judge_marked.Given as goal

abbrev pub invariant-loop-rest : goal.invariant-loop-rest
invariant-loop-rest l = record {
  marked : MarkedSoFar (lent l.texts) l.first_indices l.named_by l.feature l.values l.tags l.rest;
  below : AreBelow l.named_by (l.feature + 1);
  within : length l.rest ≤ length l.tags;
}

abbrev pub decreases-loop-rest : goal.decreases-loop-rest
decreases-loop-rest l = length l.rest
