use Rattle.std.proofs.Common.{◌≡◌, map, take}
use Rattle.mvt_c.specs.Mending.{row_of_change}
use Rattle.mvt_c.proofs.mending.change_rows.Given as goal

abbrev pub invariant-loop-change : goal.invariant-loop-change
invariant-loop-change l = l.rows.items ≡ map row_of_change (take l.change-index l.changes)
