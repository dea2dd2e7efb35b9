use Rattle.mvt_rows.proofs.RowsLaws.{read_rows_are_one_table}
use Rattle.mvt_rows.proofs.laws.read_rows_are_one_table.Goals as goal

pub returns : goal.returns
returns c = read_rows_are_one_table
