use Rattle.mvt_rows.proofs.RowsLaws.{rows_with_a_fault_are_no_tile}
use Rattle.mvt_rows.proofs.laws.rows_with_a_fault_are_no_tile.Goals as goal

pub returns : goal.returns
returns c = rows_with_a_fault_are_no_tile
