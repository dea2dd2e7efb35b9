use Rattle.std.proofs.Common.{◌≡◌, ◌≤◌, ◌+◌, ◌++◌, length}
use Rattle.std.specs.List.{AllByRecursion}
use Rattle.mvt_wire.specs.Spelling.{spelled}
use Rattle.mvt_wire.specs.Split.{split}
use Rattle.mvt_tile_value.specs.declared.numbers.tile.TheConstants.{LAYERS}
use Rattle.mvt_mend.specs.Tiles.{as_layer, cause_from, changes_from, fields_with, layer_cause, layer_changes, layer_steps, steps_in}
use Rattle.mvt_mend.proofs.FieldsLemmas.{IsNumbered}
use Rattle.mvt_mend.proofs.tiles.mend_fields.Given as goal

abbrev pub invariant-loop-field : goal.invariant-loop-field
invariant-loop-field l = record {
  numbered : AllByRecursion IsNumbered l.field-iterator.to_come.fields;
  few : l.index + length l.field-iterator.to_come.fields ≤ length l.bytes;
  bytes : l.out.items ++ spelled (fields_with as_layer LAYERS l.field-iterator.to_come.fields)
      ≡ l.initial.out.items ++ spelled (fields_with as_layer LAYERS (split l.bytes).fields);
  changes : l.told.changes.items ++ changes_from layer_changes LAYERS l.index l.field-iterator.to_come.fields
      ≡ l.initial.told.changes.items ++ changes_from layer_changes LAYERS 0 (split l.bytes).fields;
  cause : cause_from layer_cause LAYERS l.index l.told.cause l.field-iterator.to_come.fields
      ≡ cause_from layer_cause LAYERS 0 l.initial.told.cause (split l.bytes).fields;
  left : l.told.left + steps_in layer_steps LAYERS (split l.bytes).fields
      ≡ l.initial.told.left + steps_in layer_steps LAYERS l.field-iterator.to_come.fields;
}
