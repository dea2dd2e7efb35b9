use Rattle.std.proofs.Common.{◌≡◌, ◌≤◌, ◌*◌, ◌^◌, List, length}
use Rattle.std.specs.Int.RustNames.{unsigned_abs}
use Rattle.mvt_geometry.specs.Commands.{Pair, positions}
use Rattle.mvt_geometry.specs.Inner.Judging.{Walked, edges}
use Rattle.mvt_geometry.proofs.judging.judge_edges.Given as goal

abbrev pub invariant-loop-rest : goal.invariant-loop-rest
invariant-loop-rest l =
    (done : List Pair) × Walked l.is_line l.begin l.fn.from l.parameters l.rest l.cursor done × (l.area ≡ edges l.fn.from (positions l.fn.from done))
    × (unsigned_abs l.area ≤ length done * 2 ^ 63)

abbrev pub decreases-loop-rest : goal.decreases-loop-rest
decreases-loop-rest l = length l.rest
