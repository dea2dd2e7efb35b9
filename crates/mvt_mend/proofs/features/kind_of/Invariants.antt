use Rattle.std.proofs.Common.{◌≡◌}
use Rattle.mvt_geometry.specs.declared.shape.Kind.TheVariants as kinds
use Rattle.mvt_wire.specs.Split.{split}
use Rattle.mvt_mend.proofs.FieldsLemmas.{kind_from}
use Rattle.mvt_mend.proofs.features.kind_of.Given as goal

abbrev pub invariant-loop-field : goal.invariant-loop-field
invariant-loop-field l = kind_from l.kind l.field-iterator.to_come.fields ≡ kind_from kinds.Unknown (split l.payload).fields
