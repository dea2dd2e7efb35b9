use Rattle.mvt_mend.proofs.StayLemmas.{tile_stays_bytes, tile_stays_changes}
use Rattle.mvt_mend.proofs.laws.tile_stays.Goals as goal

pub returns-clause-changes : goal.returns-clause-changes
returns-clause-changes c = tile_stays_changes

pub returns-clause-bytes : goal.returns-clause-bytes
returns-clause-bytes c = tile_stays_bytes
