use Rattle.mvt_mend.proofs.MendLaws.{mended_is_faultless}
use Rattle.mvt_mend.proofs.laws.mended_is_faultless.Goals as goal

pub returns : goal.returns
returns c = mended_is_faultless
