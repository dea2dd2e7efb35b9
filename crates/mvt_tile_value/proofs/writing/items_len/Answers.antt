use Rattle.std.proofs.Common.{◌+◌, take, length, arith, ap, length-append}
use Rattle.std.proofs.lemmas.Result.{err_from_is_err_and}
use Rattle.mvt_tile_value.proofs.WritingLemmas.{written, field_of, written_more, written_within, payload_within}
use Rattle.mvt_tile_value.proofs.writing.items_len.Goals as goal

pub returns-in_err-total-clause-too_large : goal.returns-in_err-total-clause-too_large
returns-in_err-total-clause-too_large c =
    let p = err_from_is_err_and c.from_residual.result c.from_residual.ensures.1 in
    λ h. (let large = c.in_err-total.ensures.too_large (let k = rw p.1 at h in let q = p.2 in cc) in
    omega (arith, payload_within c.args.items.now c.loop-item.item-index c.item-item.result c.loop-item-test.true c.item-item.is))

pub returns-then-total-gt-LIMIT-clause-too_large : goal.returns-then-total-gt-LIMIT-clause-too_large
returns-then-total-gt-LIMIT-clause-too_large c = λ h.
    omega (
      arith,
      written_within c.args.items.now (c.loop-item.item-index + 1),
      ap length (written_more c.args.items.now c.loop-item.item-index c.item-item.result c.loop-item-test.true c.item-item.is),
      length-append (written (take c.loop-item.item-index c.args.items.now)) (field_of c.item-item.result),
      c.in_ok-total.ensures.len,
    )
