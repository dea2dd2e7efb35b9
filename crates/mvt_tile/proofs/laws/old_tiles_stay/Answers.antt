use Rattle.mvt_tile.proofs.TileLaws.{old_tiles_stay}
use Rattle.mvt_tile.proofs.laws.old_tiles_stay.Goals as goal

pub returns : goal.returns
returns c = old_tiles_stay
