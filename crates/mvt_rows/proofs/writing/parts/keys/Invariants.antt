use Rattle.std.proofs.Common.{◌≡◌, IsUtf8, Some, take}
use Rattle.std.specs.List.{AllByRecursion}
use Rattle.mvt_attrs.specs.FirstUses.{lent}
use Rattle.mvt_rows.specs.TileRows.{each, text_of}
use Rattle.mvt_rows.proofs.writing.parts.keys.Given as goal

abbrev pub invariant-loop-span : goal.invariant-loop-span
invariant-loop-span l = record {
  made : each (text_of l.texts) (take l.span-index l.spans) ≡ Some (lent l.keys.items);
  utf8 : AllByRecursion IsUtf8 (lent l.keys.items);
}
