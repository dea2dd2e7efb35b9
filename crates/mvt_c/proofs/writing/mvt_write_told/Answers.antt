use Rattle.mvt_rows.proofs.RowsLaws.{rows_are_one_tile}
use Rattle.mvt_rows.specs.Lent.{table_of}
use Rattle.mvt_c.proofs.writing.mvt_write_told.Goals as goal

pub returns-in-Ok-clause-one : goal.returns-in-Ok-clause-one
returns-in-Ok-clause-one c = rows_are_one_tile (table_of c.args.rows.now)

pub returns-in-Err-Memory-clause-one : goal.returns-in-Err-Memory-clause-one
returns-in-Err-Memory-clause-one c = rows_are_one_tile (table_of c.args.rows.now)

pub returns-in-Err-TooLarge-clause-one : goal.returns-in-Err-TooLarge-clause-one
returns-in-Err-TooLarge-clause-one c = rows_are_one_tile (table_of c.args.rows.now)

pub returns-in-Err-NoTile-clause-one : goal.returns-in-Err-NoTile-clause-one
returns-in-Err-NoTile-clause-one c = rows_are_one_tile (table_of c.args.rows.now)
