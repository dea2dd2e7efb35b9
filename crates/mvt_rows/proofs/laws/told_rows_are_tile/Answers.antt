use Rattle.mvt_rows.proofs.RowsLaws.{told_rows_are_tile_tile, told_rows_are_tile_written, told_rows_are_tile_taken}
use Rattle.mvt_rows.proofs.laws.told_rows_are_tile.Goals as goal

pub returns : goal.returns
returns c = record {
  tile = told_rows_are_tile_tile;
  written = told_rows_are_tile_written;
  taken = told_rows_are_tile_taken;
}
