use Rattle.mvt_mend.proofs.RemadeLemmas.{spells_both, points_are_told}
use Rattle.mvt_mend.proofs.whole.points_are_told.Goals as goal

pub returns-clause-spelled : goal.returns-clause-spelled
returns-clause-spelled c = spells_both

pub returns-clause-points : goal.returns-clause-points
returns-clause-points c = points_are_told
