-- What the public law states, for the proofs of the crates above: a lemma for each clause.
pub use Rattle.mvt_view.proofs.FrontLemmas.{fields_lines-front as front_reports_lines, fields_fault-front as front_reports_fault}
