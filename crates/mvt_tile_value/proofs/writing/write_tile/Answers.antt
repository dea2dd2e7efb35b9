use Rattle.std.proofs.Common.{refl, arith}
use Rattle.std.proofs.lemmas.Result.{err_from_is_err_and}
use Rattle.mvt_tile_value.proofs.WritingLemmas.{canonical_is, on_ok, put_large}
use Rattle.mvt_tile_value.proofs.writing.write_tile.Goals as goal

pub returns-in_err-items_len-clause-too_large : goal.returns-in_err-items_len-clause-too_large
returns-in_err-items_len-clause-too_large g c =
    let p = err_from_is_err_and c.from_residual.result c.from_residual.ensures.1 in
    λ h. (
      rw (canonical_is c.args.tile.now c.as_slice-items.result.now c.as_slice-items.ensures)
          (c.in_err-items_len.ensures.too_large
          (let k = rw p.1 at h in let q = p.2 in let e = put_large c.in_err-items_len.field-0.0 cc in cc)),
      refl,
    )

pub returns-clause-wrote : goal.returns-clause-wrote
returns-clause-wrote g c =
    rw (canonical_is c.args.tile.now c.as_slice-items.result.now c.as_slice-items.ensures) c.write_items.ensures.wrote

pub returns-clause-small : goal.returns-clause-small
returns-clause-small g c =
    rw (canonical_is c.args.tile.now c.as_slice-items.result.now c.as_slice-items.ensures)
    (on_ok c.write_items.result (omega (arith, c.in_ok-items_len.ensures.len, c.in_ok-items_len.ensures.small)))

pub returns-clause-stopped : goal.returns-clause-stopped
returns-clause-stopped g c =
    rw (canonical_is c.args.tile.now c.as_slice-items.result.now c.as_slice-items.ensures) c.write_items.ensures.stopped
