use Rattle.std.proofs.Common.{take}
use Rattle.mvt_tile_value.specs.Encoding.{AreEncoded}
use Rattle.mvt_tile_value.proofs.encoding.encode.Given as goal

abbrev pub invariant-loop-item : goal.invariant-loop-item
invariant-loop-item l = AreEncoded 67108864 (take l.item-index l.items) l.out
