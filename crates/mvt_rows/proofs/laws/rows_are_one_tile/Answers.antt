use Rattle.mvt_rows.proofs.RowsLaws.{rows_are_one_tile}
use Rattle.mvt_rows.proofs.laws.rows_are_one_tile.Goals as goal

pub returns : goal.returns
returns c = rows_are_one_tile
