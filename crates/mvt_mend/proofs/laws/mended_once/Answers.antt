use Rattle.mvt_mend.proofs.MendLaws.{mended_once}
use Rattle.mvt_mend.proofs.laws.mended_once.Goals as goal

pub returns : goal.returns
returns c = mended_once
