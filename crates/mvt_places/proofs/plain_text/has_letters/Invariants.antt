use Rattle.std.proofs.Common.{◌≡◌, length, false}
use Rattle.mvt_places.specs.Lookalikes.{has_letters}
use Rattle.mvt_places.proofs.plain_text.has_letters.Given as goal

abbrev pub invariant-loop-rest : goal.invariant-loop-rest
invariant-loop-rest l = has_letters l.behind_letter l.rest ≡ has_letters false l.bytes

abbrev pub decreases-loop-rest : goal.decreases-loop-rest
decreases-loop-rest l = length l.rest
