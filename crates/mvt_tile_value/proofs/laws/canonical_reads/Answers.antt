use Rattle.mvt_tile_value.proofs.CanonicalLemmas.{canonical_reads}
use Rattle.mvt_tile_value.proofs.laws.canonical_reads.Goals as goal

pub returns : goal.returns
returns c = canonical_reads
