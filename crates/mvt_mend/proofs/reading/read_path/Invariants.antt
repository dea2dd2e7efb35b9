use Rattle.std.proofs.Common.{◌≡◌, length}
use Rattle.mvt_mend.specs.Reading.{path_in}
use Rattle.mvt_mend.proofs.reading.read_path.Given as goal

abbrev pub invariant-loop-rest : goal.invariant-loop-rest
invariant-loop-rest l =
    path_in l.points.items l.cursor l.rest ≡ path_in l.initial.points.items l.fn.from l.parameters

abbrev pub decreases-loop-rest : goal.decreases-loop-rest
decreases-loop-rest l = length l.rest
