use Rattle.std.proofs.Common.{◌≡◌, take}
use Rattle.mvt_feature.proofs.feature.copy_attributes.Given as goal

abbrev pub invariant-loop-attribute : goal.invariant-loop-attribute
invariant-loop-attribute l = l.copies.items ≡ take l.attribute-index l.attributes
