use Rattle.std.proofs.Common.{◌≡◌, Some, take}
use Rattle.std.specs.List.{AllByRecursion}
use Rattle.mvt_feature.specs.Valid.{ValidValue}
use Rattle.mvt_rows.specs.TileRows.{each, value_of}
use Rattle.mvt_rows.proofs.writing.values.values.Given as goal

abbrev pub invariant-loop-row : goal.invariant-loop-row
invariant-loop-row l = record {
  made : each (value_of l.texts) (take l.row-index l.rows) ≡ Some l.values.items;
  valid : AllByRecursion ValidValue l.values.items;
}
