use Rattle.mvt_attrs.specs.Inner.Places.{AreIndices}
use Rattle.mvt_attrs.proofs.layer_keys.group_apart.Given as goal

abbrev pub invariant-loop-index : goal.invariant-loop-index
invariant-loop-index l = AreIndices l.first_indices.items l.index
