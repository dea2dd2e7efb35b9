use Rattle.std.proofs.Common.{◌≡◌, take}
use Rattle.std.specs.List.{fold}
use Rattle.mvt_rows.specs.ToldRows.{with_given}
use Rattle.mvt_rows.proofs.table.Table.add_given.Given as goal

abbrev pub invariant-loop-value : goal.invariant-loop-value
invariant-loop-value l = l.self ≡ fold with_given l.initial.self (take l.value-index l.values)
