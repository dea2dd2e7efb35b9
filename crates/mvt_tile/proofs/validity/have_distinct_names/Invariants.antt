use Rattle.std.proofs.Common.{take}
use Rattle.mvt_tile_value.specs.Tiles.{HasDistinctNames}
use Rattle.mvt_tile.proofs.validity.have_distinct_names.Given as goal

abbrev pub invariant-loop-index : goal.invariant-loop-index
invariant-loop-index l = HasDistinctNames (take l.index l.items)
