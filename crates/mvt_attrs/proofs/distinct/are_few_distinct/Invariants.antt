use Rattle.std.proofs.Common.{map}
use Rattle.mvt_attrs.specs.Inner.Apart.{AreApart}
use Rattle.mvt_attrs.proofs.distinct.are_few_distinct.Given as goal

abbrev pub invariant-loop-index : goal.invariant-loop-index
invariant-loop-index g l = AreApart (map g.T.AsSlice.items l.entries) l.index
