use Rattle.std.proofs.Common.{◌≡◌, length}
use Rattle.mvt_places.specs.Lookalikes.{holds}
use Rattle.mvt_places.proofs.lookalike.holds.Given as goal

abbrev pub invariant-loop-rest : goal.invariant-loop-rest
invariant-loop-rest l = holds l.text l.rest ≡ holds l.text l.bytes

abbrev pub decreases-loop-rest : goal.decreases-loop-rest
decreases-loop-rest l = length l.rest
