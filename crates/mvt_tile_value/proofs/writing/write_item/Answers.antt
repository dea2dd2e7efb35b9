use Rattle.std.proofs.Common.{arith}
use Rattle.std.proofs.lemmas.Result.{err_from_is_err_and}
use Rattle.mvt_tile_value.proofs.WritingLemmas.{put_large}
use Rattle.mvt_tile_value.proofs.writing.write_item.Goals as goal

pub returns-in_err-payload-clause-never : goal.returns-in_err-payload-clause-never
returns-in_err-payload-clause-never g c =
    let p = err_from_is_err_and c.from_residual.result c.from_residual.ensures.1 in
    λ h. (let large = c.in_err-payload.ensures.too_large
    (let k = rw p.1 at h in let q = p.2 in let e = put_large c.in_err-payload.field-0.0 cc in cc) in
    omega (arith, c.requires.small, large))
