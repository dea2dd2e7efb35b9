use Rattle.mvt_mend.proofs.MendLaws.{long_cause}
use Rattle.mvt_mend.proofs.laws.long_cause.Goals as goal

pub returns : goal.returns
returns c = long_cause
