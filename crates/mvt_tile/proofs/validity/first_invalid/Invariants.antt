use Rattle.std.proofs.Common.{take}
use Rattle.mvt_tile.specs.Inner.Judging.{AreKept}
use Rattle.mvt_tile.proofs.validity.first_invalid.Given as goal

abbrev pub invariant-loop-index : goal.invariant-loop-index
invariant-loop-index l = AreKept l.names (take l.index l.items)
