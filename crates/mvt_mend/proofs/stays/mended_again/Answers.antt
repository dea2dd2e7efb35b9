use Rattle.mvt_mend.proofs.MendedTileLemmas.{unchanged}
use Rattle.mvt_mend.proofs.AgainLemmas.{again_bytes, again_changes, same_changes}
use Rattle.mvt_mend.proofs.stays.mended_again.Goals as goal

pub returns-clause-bytes : goal.returns-clause-bytes
returns-clause-bytes c = again_bytes

pub returns-clause-changes : goal.returns-clause-changes
returns-clause-changes c = again_changes

pub returns-clause-told : goal.returns-clause-told
returns-clause-told c = same_changes

pub returns-clause-untold : goal.returns-clause-untold
returns-clause-untold c = unchanged
