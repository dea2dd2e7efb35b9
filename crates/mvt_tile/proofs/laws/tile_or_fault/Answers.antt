use Rattle.mvt_tile.proofs.TileLaws.{tile_or_fault_there, tile_or_fault_clean, tile_or_fault_once}
use Rattle.mvt_tile.proofs.laws.tile_or_fault.Goals as goal

pub returns-clause-there : goal.returns-clause-there
returns-clause-there c = tile_or_fault_there

pub returns-clause-clean : goal.returns-clause-clean
returns-clause-clean c = tile_or_fault_clean

pub returns-clause-once : goal.returns-clause-once
returns-clause-once c = tile_or_fault_once
