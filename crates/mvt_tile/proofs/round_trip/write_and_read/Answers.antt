use Rattle.mvt_tile_value.specs.CanonicalTiles.{canonical}
use Rattle.mvt_tile.proofs.RoundTripLemmas.{reads_back, read_exactly}
use Rattle.mvt_tile.proofs.TileLaws.{one_tile_reads}
use Rattle.mvt_tile.proofs.round_trip.write_and_read.Goals as goal

pub returns-clause-same : goal.returns-clause-same
returns-clause-same g c = λ all.
    let is = one_tile_reads c.args.tile.now c.requires c.in_ok-write_tile.ensures.small in
    reads_back (canonical c.args.tile.now) _ c.args.tile.now c.read_tile.result is all c.read_tile.ensures.tile c.read_tile.ensures.fault

pub returns-clause-exact : goal.returns-clause-exact
returns-clause-exact g c = read_exactly _ c.read_tile.result c.read_tile.ensures.tile c.read_tile.ensures.fault
