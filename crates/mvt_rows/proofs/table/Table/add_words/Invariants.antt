use Rattle.std.proofs.Common.{◌≡◌, take}
use Rattle.std.specs.List.{fold}
use Rattle.mvt_rows.specs.Tables.{with_key}
use Rattle.mvt_rows.proofs.table.Table.add_words.Given as goal

abbrev pub invariant-loop-key : goal.invariant-loop-key
invariant-loop-key l = l.self ≡ fold with_key l.initial.self (take l.key-index l.keys)
