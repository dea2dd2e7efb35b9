use Rattle.std.proofs.Common.{◌≡◌, ◌<◌, ℕ, suc, [], length}
use Rattle.mvt_geometry.specs.Shape.{origin}
use Rattle.mvt_mend.specs.Reading.{parts_after}
use Rattle.mvt_mend.proofs.reading.read_all.Given as goal

abbrev pub invariant-loop-rest : goal.invariant-loop-rest
invariant-loop-rest l =
    (n : ℕ) × (length l.rest < n)
    × (parts_after l.is_ring n l.parts.items l.cursor l.rest
    ≡ parts_after l.is_ring (suc (length l.integers)) [] origin l.integers)

abbrev pub decreases-loop-rest : goal.decreases-loop-rest
decreases-loop-rest l = length l.rest
