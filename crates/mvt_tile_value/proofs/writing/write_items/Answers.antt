use Rattle.std.proofs.Common.{◌+◌, take, drop, arith}
use Rattle.std.proofs.lemmas.Result.{err_from_is_err_and}
use Rattle.mvt_io.proofs.IoLaws.{writes_add_up_part}
use Rattle.mvt_tile_value.proofs.WritingLemmas.{written, field_of, written_parts, payload_within}
use Rattle.mvt_tile_value.proofs.writing.write_items.Goals as goal

pub returns-in_err-write_item-clause-never : goal.returns-in_err-write_item-clause-never
returns-in_err-write_item-clause-never g c =
    let p = err_from_is_err_and c.from_residual.result c.from_residual.ensures.1 in
    λ h. c.in_err-write_item.ensures.never (let k = rw p.1 at h in let q = p.2 in cc)

pub returns-in_err-write_item-clause-stopped : goal.returns-in_err-write_item-clause-stopped
returns-in_err-write_item-clause-stopped g c =
    let p = err_from_is_err_and c.from_residual.result c.from_residual.ensures.1 in
    rw (p.1, p.2)
    (writes_add_up_part _ _ _ (written (take c.loop-item.item-index c.args.items.now)) (field_of c.item-item.result)
    (written (drop (c.loop-item.item-index + 1) c.args.items.now)) _ _
    (written_parts c.args.items.now c.loop-item.item-index c.item-item.result c.loop-item-test.true c.item-item.is)
    c.loop-item.invariant c.in_err-write_item.ensures.stopped)

pub write_item-requires-clause-small : goal.write_item-requires-clause-small
write_item-requires-clause-small g c =
    let within = payload_within c.args.items.now c.loop-item.item-index c.item-item.result c.loop-item-test.true c.item-item.is in
    omega (arith, within, c.requires.small)
