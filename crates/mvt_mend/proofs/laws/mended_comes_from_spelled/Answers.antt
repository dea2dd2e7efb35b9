use Rattle.mvt_mend.proofs.MendLaws.{mended_comes_from_spelled}
use Rattle.mvt_mend.proofs.laws.mended_comes_from_spelled.Goals as goal

pub returns : goal.returns
returns c = mended_comes_from_spelled
