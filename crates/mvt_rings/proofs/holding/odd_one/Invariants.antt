use Rattle.std.proofs.Common.{◌≡◌, drop}
use Rattle.mvt_rings.specs.Holding.{odd_one_from}
use Rattle.mvt_rings.proofs.holding.odd_one.Given as goal

abbrev pub invariant-loop-ring : goal.invariant-loop-ring
invariant-loop-ring l =
    odd_one_from l.holders l.ring (drop l.ring l.holders.counts) ≡ odd_one_from l.holders 0 l.holders.counts
