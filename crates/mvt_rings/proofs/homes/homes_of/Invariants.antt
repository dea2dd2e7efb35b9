use Rattle.std.proofs.Common.{◌≡◌, drop}
use Rattle.mvt_rings.specs.Homes.{homes_after}
use Rattle.mvt_rings.proofs.homes.homes_of.Given as goal

abbrev pub invariant-loop-ring : goal.invariant-loop-ring
invariant-loop-ring l =
    homes_after l.holders l.homes.items l.before (drop l.ring-index l.rings)
    ≡ homes_after l.holders l.initial.homes.items l.initial.before l.rings
