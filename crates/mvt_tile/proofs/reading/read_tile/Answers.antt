use Rattle.std.proofs.lemmas.Result.{err_from_is_err_and}
use Rattle.mvt_tile.proofs.reading.read_tile.Goals as goal

pub returns-in_err-taken-clause-read : goal.returns-in_err-taken-clause-read
returns-in_err-taken-clause-read g c =
    let p = err_from_is_err_and c.from_residual.result c.from_residual.ensures.1 in
    rw (p.1, p.2) c.in_err-taken.ensures.read

pub returns-clause-tile : goal.returns-clause-tile
returns-clause-tile g c =
    let (payloads, tile, has, distinct, is) = c.in_ok-taken.ensures.tile tt c.new.ensures in
    rw (c.into_tile.ensures, has.2) is

pub returns-clause-valid : goal.returns-clause-valid
returns-clause-valid g c =
    let (payloads, tile, has, distinct, is) = c.in_ok-taken.ensures.tile tt c.new.ensures in
    rw (c.into_tile.ensures, has.2) (record { items = has.1; names = distinct })
