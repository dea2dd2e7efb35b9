use Rattle.std.proofs.Common.{List, take}
use Rattle.mvt_message.specs.declared.item.Item.{Item}
use Rattle.mvt_rows.specs.Lent.{table_of}
use Rattle.mvt_rows.specs.Writing.{AreWritten}
use Rattle.mvt_rows.proofs.writing.write_rows.Given as goal

abbrev pub invariant-loop-index : goal.invariant-loop-index
invariant-loop-index l = (items : List Item) × AreWritten (table_of l.rows) (take l.index l.rows.layers.now) l.writer items
