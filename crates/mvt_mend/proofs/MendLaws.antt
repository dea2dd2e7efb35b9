-- What the public laws state, for the proofs of the crates above: a lemma for each clause.
pub use Rattle.mvt_mend.proofs.OnceLemmas.{drawn_stays, mended_is_faultless, mended_once}
pub use Rattle.mvt_mend.proofs.OriginLemmas.{lines_come_from_lines}
pub use Rattle.mvt_mend.proofs.MendedLemmas.{mended_comes_from_spelled}
pub use Rattle.mvt_mend.proofs.ReadLemmas.{spelled_is_read}
pub use Rattle.mvt_mend.proofs.SmallLemmas.{mended_draws}
pub use Rattle.mvt_mend.proofs.MendedTileLemmas.{long_cause, long_stays}
pub use Rattle.mvt_mend.proofs.StayLemmas.{tile_stays_bytes, tile_stays_changes}
pub use Rattle.mvt_mend.proofs.ElseLemmas.{feature_else as else_stays_feature, layer_else as else_stays_layer, layer_places as else_stays_features, not_layer as else_stays_other, tile_else as else_stays_tile, tile_places as else_stays_layers}
pub use Rattle.mvt_mend.proofs.AgainLemmas.{again_bytes as mended_again_bytes, again_changes as mended_again_changes, same_changes as mended_again_told}
pub use Rattle.mvt_mend.proofs.RemadeLemmas.{spells_both as points_are_told_spelled, points_are_told as points_are_told_points, turned_told as changes_are_whole_turned, moved_told as changes_are_whole_moved, fewer_told as changes_are_whole_repeated, gone_told as changes_are_whole_gone, left_told as changes_are_whole_left_out}
pub use Rattle.mvt_mend.proofs.HeldCauseLemmas.{cross_there as cause_holds_cross, many_steps as cause_holds_steps, none_crosses as cause_holds_uncrossed, few_steps as cause_holds_few_steps}
pub use Rattle.mvt_mend.proofs.SilentLemmas.{silent_stays as nothing_is_untold_stays, stays_silent as nothing_is_untold_silent, layer_silent as nothing_is_untold_layer}
pub use Rattle.mvt_mend.proofs.MendedTileLemmas.{unchanged as mended_again_untold}
