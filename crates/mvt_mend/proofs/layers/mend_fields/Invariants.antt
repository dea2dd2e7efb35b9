use Rattle.std.proofs.Common.{◌≡◌, ◌≤◌, ◌+◌, ◌++◌, length}
use Rattle.std.specs.List.{AllByRecursion}
use Rattle.mvt_wire.specs.Spelling.{spelled}
use Rattle.mvt_wire.specs.Split.{split}
use Rattle.mvt_message.specs.declared.numbers.layer.TheConstants.{FEATURES}
use Rattle.mvt_mend.specs.Features.{feature_cause, feature_changes, feature_steps, mended_feature}
use Rattle.mvt_mend.specs.Tiles.{cause_from, changes_from, fields_with, steps_in}
use Rattle.mvt_mend.proofs.FieldsLemmas.{IsNumbered}
use Rattle.mvt_mend.proofs.layers.mend_fields.Given as goal

abbrev pub invariant-loop-field : goal.invariant-loop-field
invariant-loop-field l = record {
  numbered : AllByRecursion IsNumbered l.field-iterator.to_come.fields;
  few : l.index + length l.field-iterator.to_come.fields ≤ length l.payload;
  bytes : l.out.items ++ spelled (fields_with mended_feature FEATURES l.field-iterator.to_come.fields)
      ≡ l.initial.out.items ++ spelled (fields_with mended_feature FEATURES (split l.payload).fields);
  changes : l.told.changes.items ++ changes_from (feature_changes l.layer) FEATURES l.index l.field-iterator.to_come.fields
      ≡ l.initial.told.changes.items ++ changes_from (feature_changes l.layer) FEATURES 0 (split l.payload).fields;
  cause : cause_from (feature_cause l.layer) FEATURES l.index l.told.cause l.field-iterator.to_come.fields
      ≡ cause_from (feature_cause l.layer) FEATURES 0 l.initial.told.cause (split l.payload).fields;
  left : l.told.left + steps_in feature_steps FEATURES (split l.payload).fields
      ≡ l.initial.told.left + steps_in feature_steps FEATURES l.field-iterator.to_come.fields;
}
