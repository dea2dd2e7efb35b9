use Rattle.std.proofs.Common.{◌≡◌, false}
use Rattle.mvt_wire.proofs.LongLemmas.{HasNoLong}
use Rattle.mvt_wire.proofs.packed.are_short.Given as goal

abbrev pub invariant-loop-i : goal.invariant-loop-i
invariant-loop-i l = l.is_long ≡ false → HasNoLong l.bytes l.i
