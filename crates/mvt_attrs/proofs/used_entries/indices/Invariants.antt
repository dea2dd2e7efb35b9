use Rattle.mvt_attrs.specs.Inner.Places.{AreIndices}
use Rattle.mvt_attrs.proofs.used_entries.indices.Given as goal

abbrev pub invariant-loop-index : goal.invariant-loop-index
invariant-loop-index l = AreIndices l.indices.items l.index
