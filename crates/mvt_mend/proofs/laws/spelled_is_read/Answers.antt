use Rattle.mvt_mend.proofs.MendLaws.{spelled_is_read}
use Rattle.mvt_mend.proofs.laws.spelled_is_read.Goals as goal

pub returns : goal.returns
returns c = spelled_is_read
