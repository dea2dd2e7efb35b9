use Rattle.mvt_mend.proofs.RemadeLemmas.{turned_told, moved_told, fewer_told, gone_told, left_told}
use Rattle.mvt_mend.proofs.whole.changes_are_whole.Goals as goal

pub returns-clause-turned : goal.returns-clause-turned
returns-clause-turned c = turned_told

pub returns-clause-moved : goal.returns-clause-moved
returns-clause-moved c = moved_told

pub returns-clause-repeated : goal.returns-clause-repeated
returns-clause-repeated c = fewer_told

pub returns-clause-gone : goal.returns-clause-gone
returns-clause-gone c = gone_told

pub returns-clause-left_out : goal.returns-clause-left_out
returns-clause-left_out c = left_told
