use Rattle.std.proofs.Common.{◌<◌, ℕ, map}
use Rattle.mvt_attrs.specs.Inner.Apart.{IsApart}
use Rattle.mvt_attrs.proofs.distinct.stands_before.Given as goal

abbrev pub invariant-loop-before : goal.invariant-loop-before
invariant-loop-before g l = (i : ℕ) → i < l.before → IsApart (map g.T.AsSlice.items l.entries) i l.index
