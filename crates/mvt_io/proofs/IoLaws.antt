-- What the public laws state, for the proofs of the crates above: a lemma for each clause.
pub use Rattle.mvt_io.proofs.Fronts.{Wrote-nil as writes_add_up_nothing, Wrote-more as writes_add_up_more, WroteFront-nil as writes_add_up_none, WroteFront-after as writes_add_up_part}
