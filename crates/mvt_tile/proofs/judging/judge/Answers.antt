use Rattle.mvt_tile.proofs.TileLemmas.{tile_clean}
use Rattle.mvt_tile.proofs.judging.judge.Goals as goal

pub returns-clause-ok : goal.returns-clause-ok
returns-clause-ok c =
    let (tile, is, valid, has) = c.in_ok-visit_tile.ensures.tile tt tt in
    tile_clean 67108864 c.args.bytes.now tile is

pub returns-clause-tile : goal.returns-clause-tile
returns-clause-tile c = let (tile, is, valid, has) = c.in_ok-visit_tile.ensures.tile tt tt in (tile, is)
