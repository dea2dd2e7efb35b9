use Rattle.mvt_tile.specs.Inner.Wanting.{all_items}
use Rattle.mvt_tile.proofs.WantedLemmas.{tile_encoded}
use Rattle.mvt_tile.proofs.rewriting.rewrite.Goals as goal

pub returns-clause-tile : goal.returns-clause-tile
returns-clause-tile c =
    let (tile, is, valid, has) = c.in_ok-rewriter.ensures.tile all_items c.of_all.ensures in
    (tile, is, valid, tile_encoded 67108864 tile _ has.encoded)
