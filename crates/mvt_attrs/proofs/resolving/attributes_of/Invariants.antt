use Rattle.std.proofs.Common.{List, ◌++◌, length}
use Rattle.mvt_base.specs.Related.{AreRelated}
use Rattle.mvt_attrs.specs.declared.value.Attribute.{Attribute}
use Rattle.mvt_attrs.specs.Tags.{Resolved, NamesOne}
use Rattle.mvt_attrs.specs.TagRules.{pairs_of}
use Rattle.mvt_attrs.proofs.resolving.attributes_of.Given as goal

abbrev pub invariant-loop-rest : goal.invariant-loop-rest
invariant-loop-rest l =
    (to_come : List Attribute) × AreRelated (NamesOne l.texts l.values) (pairs_of l.rest) to_come
    × Resolved l.texts l.values l.tags (l.attributes.items ++ to_come)

abbrev pub decreases-loop-rest : goal.decreases-loop-rest
decreases-loop-rest l = length l.rest
