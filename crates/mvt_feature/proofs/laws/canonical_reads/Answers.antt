use Rattle.mvt_feature.proofs.FeatureLaws.{canonical_reads_value, canonical_reads_feature}
use Rattle.mvt_feature.proofs.laws.canonical_reads.Goals as goal

pub returns : goal.returns
returns c = record { value = canonical_reads_value; feature = canonical_reads_feature }
