use Rattle.mvt_mend.proofs.MendLaws.{drawn_stays}
use Rattle.mvt_mend.proofs.laws.drawn_stays.Goals as goal

pub returns : goal.returns
returns c = drawn_stays
