-- What the public laws state, for the proofs of the crates above: a lemma for each clause.
pub use Rattle.mvt_tile_value.proofs.CanonicalLemmas.{canonical_reads}
pub use Rattle.mvt_tile_value.proofs.WritingLemmas.{long_items}
use Rattle.std.specs.Prelude.{◌≡◌, refl}
use Rattle.mvt_tile_value.specs.declared.numbers.tile.TheConstants.{LAYERS}

pub field_numbers : LAYERS ≡ 3
field_numbers = refl
