use Rattle.mvt_tile.proofs.visiting.visit_tile.Goals as goal

pub returns-clause-tile : goal.returns-clause-tile
returns-clause-tile g c = λ given start.
    let (tile, is, has) = c.in_ok-taken.ensures.tile given start in
    (tile, is, record { items = has.1; names = is.distinct }, has.2)
