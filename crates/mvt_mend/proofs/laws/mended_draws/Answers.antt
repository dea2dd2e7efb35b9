use Rattle.mvt_mend.proofs.MendLaws.{mended_draws}
use Rattle.mvt_mend.proofs.laws.mended_draws.Goals as goal

pub returns : goal.returns
returns c = mended_draws
