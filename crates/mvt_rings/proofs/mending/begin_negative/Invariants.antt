use Rattle.std.proofs.Common.{◌≡◌, drop}
use Rattle.mvt_rings.specs.Mending.{begins_negative, kept_from}
use Rattle.mvt_rings.proofs.mending.begin_negative.Given as goal

abbrev pub invariant-loop-ring : goal.invariant-loop-ring
invariant-loop-ring l =
    begins_negative (kept_from 3 l.ring-index (drop l.ring-index l.rings)) ≡ begins_negative (kept_from 3 0 l.rings)
