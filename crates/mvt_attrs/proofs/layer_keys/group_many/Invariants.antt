use Rattle.mvt_attrs.specs.FirstUses.{lent}
use Rattle.mvt_attrs.specs.Inner.Marking.{place_in_map}
use Rattle.mvt_attrs.proofs.MarkingLemmas.{Found}
use Rattle.mvt_attrs.proofs.layer_keys.group_many.Given as goal

abbrev pub invariant-loop-index : goal.invariant-loop-index
invariant-loop-index l = Found (lent l.texts) l.index l.first_indices.items (place_in_map l.known)
