-- What the public laws state, for the proofs of the crates above: a lemma for each clause.
pub use Rattle.mvt_rings.proofs.TurningLemmas.{turned_area, exterior_area as directed_area_exterior, interior_area as directed_area_interior}
pub use Rattle.mvt_rings.proofs.RingsStayLemmas.{rings_stay}
pub use Rattle.mvt_rings.proofs.EvenOddLemmas.{even_odd_stays}
pub use Rattle.mvt_rings.proofs.OriginLemmas.{origins as rings_come_from_rings_origin}
pub use Rattle.mvt_rings.proofs.IndexLemmas.{index_once as rings_come_from_rings_once}
pub use Rattle.mvt_rings.proofs.SignsSayLemmas.{signs_say_even_odd}
pub use Rattle.mvt_rings.proofs.BandLemmas.{band_tells}
pub use Rattle.mvt_rings.proofs.LargerLemmas.{larger_irreflexive as larger_orders_irreflexive, larger_transitive as larger_orders_transitive, larger_total as larger_orders_total, ring_index as larger_orders_numbered}
pub use Rattle.mvt_rings.proofs.CrossingLemmas.{crossing_holds as crossing_holds_holds, told_uncrossed as crossing_holds_only}
pub use Rattle.mvt_rings.proofs.LongLemmas.{rings_are_long}
pub use Rattle.mvt_rings.proofs.FirstLemmas.{told_begins}
pub use Rattle.mvt_rings.proofs.DrawingLemmas.{drawings_agree as both_drawings_agree}
