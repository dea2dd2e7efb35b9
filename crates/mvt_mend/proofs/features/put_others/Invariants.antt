use Rattle.std.proofs.Common.{◌≡◌, ◌++◌}
use Rattle.std.specs.List.{AllByRecursion}
use Rattle.mvt_wire.specs.Spelling.{spelled}
use Rattle.mvt_wire.specs.Split.{split}
use Rattle.mvt_mend.specs.Features.{others}
use Rattle.mvt_mend.proofs.FieldsLemmas.{IsNumbered}
use Rattle.mvt_mend.proofs.features.put_others.Given as goal

abbrev pub invariant-loop-field : goal.invariant-loop-field
invariant-loop-field l = record {
  numbered : AllByRecursion IsNumbered l.field-iterator.to_come.fields;
  same : l.out.items ++ spelled (others l.field-iterator.to_come.fields)
      ≡ l.initial.out.items ++ spelled (others (split l.payload).fields);
}
