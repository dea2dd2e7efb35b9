-- What the public laws state, for the proofs of the crates above: a lemma for each clause.
pub use Rattle.mvt_geometry.proofs.LawLemmas.{one_geometry_lem as one_geometry, drawn_small_lem as drawn_small, old_geometries_stay, narrow_draws as narrow_is_wide}
pub use Rattle.mvt_geometry.proofs.WholeLemmas.{drawn_faultless as drawn_is_faultless, faultless_drawn as faultless_draws}
pub use Rattle.mvt_geometry.proofs.OrderedLemmas.{least_fault as fault_is_least, table_ordered as geometry_ordered}
pub use Rattle.mvt_geometry.proofs.PartsLemmas.{stroke_follows, strokes_follow, end_follows}
