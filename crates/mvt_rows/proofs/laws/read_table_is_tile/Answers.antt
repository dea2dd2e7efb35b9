use Rattle.mvt_rows.proofs.RowsLaws.{read_table_is_tile}
use Rattle.mvt_rows.proofs.laws.read_table_is_tile.Goals as goal

pub returns : goal.returns
returns c = read_table_is_tile
