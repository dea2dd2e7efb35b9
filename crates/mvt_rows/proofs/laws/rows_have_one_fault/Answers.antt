use Rattle.mvt_rows.proofs.RowsLaws.{rows_have_one_fault}
use Rattle.mvt_rows.proofs.laws.rows_have_one_fault.Goals as goal

pub returns : goal.returns
returns c = rows_have_one_fault
