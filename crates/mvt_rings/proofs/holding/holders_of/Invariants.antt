use Rattle.std.proofs.Common.{◌≡◌, drop}
use Rattle.mvt_rings.specs.Holding.{holders_after}
use Rattle.mvt_rings.proofs.holding.holders_of.Given as goal

abbrev pub invariant-loop-ring : goal.invariant-loop-ring
invariant-loop-ring l =
    holders_after l.rings l.counts.items l.leasts.items (drop l.ring-index l.rings)
    ≡ holders_after l.rings l.initial.counts.items l.initial.leasts.items l.rings
