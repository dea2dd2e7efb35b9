use Rattle.mvt_tile.proofs.TileLaws.{one_tile_one, one_tile_reads}
use Rattle.mvt_tile.proofs.laws.one_tile.Goals as goal

pub returns-clause-one : goal.returns-clause-one
returns-clause-one c = one_tile_one

pub returns-clause-reads : goal.returns-clause-reads
returns-clause-reads c = one_tile_reads
