use Rattle.std.proofs.Common.{ℕ, Vec, Global, arith}
use Rattle.std.proofs.lemmas.List.{take_all}
use Rattle.mvt_tile_value.proofs.WritingLemmas.{encoded_put, encoded_small, encoded_large, encoded_reads}
use Rattle.mvt_tile_value.proofs.encoding.encode.Goals as goal

pub returns-clause-put : goal.returns-clause-put
returns-clause-put c =
    let items = c.as_slice-items.result.now in
    let all = rw (take_all c.loop-item.item-index items (omega arith)) at c.loop-item.invariant in
    rw c.ok_or.ensures.value (encoded_put 67108864 c.args.tile.now items c.as_slice-items.ensures c.loop-item.out all)

pub returns-clause-small : goal.returns-clause-small
returns-clause-small c =
    let items = c.as_slice-items.result.now in
    let all = rw (take_all c.loop-item.item-index items (omega arith)) at c.loop-item.invariant in
    rw c.ok_or.ensures.value (encoded_small 67108864 c.args.tile.now items c.as_slice-items.ensures c.loop-item.out all)

pub returns-clause-reads : goal.returns-clause-reads
returns-clause-reads c =
    let items = c.as_slice-items.result.now in
    let all = rw (take_all c.loop-item.item-index items (omega arith)) at c.loop-item.invariant in
    rw c.ok_or.ensures.value
    (encoded_reads c.args.tile.now (λ (b : Vec ℕ Global). b.items) _ c.requires
    (encoded_put 67108864 c.args.tile.now items c.as_slice-items.ensures c.loop-item.out all)
    (encoded_small 67108864 c.args.tile.now items c.as_slice-items.ensures c.loop-item.out all))

pub returns-clause-too_large : goal.returns-clause-too_large
returns-clause-too_large c =
    let items = c.as_slice-items.result.now in
    let all = rw (take_all c.loop-item.item-index items (omega arith)) at c.loop-item.invariant in
    rw c.ok_or.ensures.value (encoded_large 67108864 c.args.tile.now items c.as_slice-items.ensures c.loop-item.out all)
