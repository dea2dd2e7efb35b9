use Rattle.std.proofs.Common.{◌≡◌, length}
use Rattle.mvt_places.specs.Lookalikes.{unspaced}
use Rattle.mvt_places.proofs.plain_text.unspaced.Given as goal

abbrev pub invariant-loop-rest : goal.invariant-loop-rest
invariant-loop-rest l = unspaced l.rest ≡ unspaced l.bytes

abbrev pub decreases-loop-rest : goal.decreases-loop-rest
decreases-loop-rest l = length l.rest
