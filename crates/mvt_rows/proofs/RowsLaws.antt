-- What the public laws state, for the proofs of the crates above: a lemma for each clause.
pub use Rattle.mvt_rows.proofs.ReadLemmas.{read_written as read_rows_are_written_written, read_too_large as read_rows_are_written_too_large, read_taken as read_rows_are_written_taken}
pub use Rattle.mvt_rows.proofs.FaultLemmas.{fault_is_no_tile as rows_with_a_fault_are_no_tile}
pub use Rattle.mvt_rows.proofs.OneFaultLemmas.{one_fault as rows_have_one_fault}
pub use Rattle.mvt_rows.proofs.ReadIsTileLemmas.{read_is_tile as read_table_is_tile}
pub use Rattle.mvt_rows.proofs.ReadTableLemmas.{read_once as read_rows_are_one_table}
pub use Rattle.mvt_rows.proofs.TileLemmas.{tile_once as rows_are_one_tile}
pub use Rattle.mvt_rows.proofs.ToldTileLemmas.{told_rows_are_tile as told_rows_are_tile_tile, told_tile_is_written as told_rows_are_tile_written, told_tile_is_taken as told_rows_are_tile_taken}
