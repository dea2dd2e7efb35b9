use Rattle.std.proofs.Common.{◌≡◌, map, take}
use Rattle.mvt_c.specs.Remarks.{row_of_finding}
use Rattle.mvt_c.proofs.remarks.finding_rows.Given as goal

abbrev pub invariant-loop-finding : goal.invariant-loop-finding
invariant-loop-finding l = l.rows.items ≡ map row_of_finding (take l.finding-index l.findings)
