use Rattle.mvt_mend.proofs.MendedTileLemmas.{long_stays}
use Rattle.mvt_mend.proofs.laws.long_stays.Goals as goal

pub returns : goal.returns
returns c = long_stays
