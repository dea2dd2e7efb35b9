use Rattle.std.proofs.Common.{map}
use Rattle.mvt_attrs.specs.Inner.Apart.{AreTaken, AreOthers}
use Rattle.mvt_attrs.proofs.distinct.free_slot.Given as goal

abbrev pub invariant-loop-slot : goal.invariant-loop-slot
invariant-loop-slot g l = AreTaken l.slots l.first l.slot × AreOthers (map g.T.AsSlice.items l.entries) l.slots l.index l.first l.slot
