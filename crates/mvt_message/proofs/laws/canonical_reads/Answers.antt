use Rattle.mvt_message.proofs.MessageLaws.{canonical_reads}
use Rattle.mvt_message.proofs.laws.canonical_reads.Goals as goal

pub returns : goal.returns
returns c = canonical_reads
