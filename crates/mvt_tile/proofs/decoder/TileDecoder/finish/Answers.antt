use Rattle.std.proofs.lemmas.Result.{err_from_is_err_and}
use Rattle.mvt_tile.proofs.decoder.TileDecoder.finish.Goals as goal

pub returns-in_err-keeper-clause-fault : goal.returns-in_err-keeper-clause-fault
returns-in_err-keeper-clause-fault c =
    let p = err_from_is_err_and c.from_residual.result c.from_residual.ensures.1 in
    rw (p.1, p.2) (λ s stands. c.in_err-keeper.ensures.fault tt s (rw (← c.self.view_is) at stands))

pub returns-clause-tile : goal.returns-clause-tile
returns-clause-tile c = λ s stands.
    let (tile, is, valid, has) = c.in_ok-keeper.ensures.tile tt s (rw (← c.self.view_is) at stands) in
    rw (c.into_tile.ensures, has) is

pub returns-clause-valid : goal.returns-clause-valid
returns-clause-valid c = let (given, s, tile, valid, has) = c.in_ok-keeper.ensures.valid in rw (c.into_tile.ensures, has) valid
