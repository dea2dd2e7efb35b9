use Rattle.mvt_rows.proofs.RowsLaws.{read_rows_are_written_written, read_rows_are_written_too_large, read_rows_are_written_taken}
use Rattle.mvt_rows.proofs.laws.read_rows_are_written.Goals as goal

pub returns : goal.returns
returns c = record {
  written = read_rows_are_written_written;
  too_large = read_rows_are_written_too_large;
  taken = read_rows_are_written_taken;
}
