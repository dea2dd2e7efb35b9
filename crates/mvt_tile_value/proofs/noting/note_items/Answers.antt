use Rattle.std.proofs.Common.{arith}
use Rattle.mvt_tile_value.specs.Notes.{item_notes}
use Rattle.mvt_tile_value.proofs.NoteLemmas.{noted_more}
use Rattle.mvt_tile_value.proofs.noting.note_items.Goals as goal

pub loop-index-preserved : goal.loop-index-preserved
loop-index-preserved c =
    noted_more item_notes 0 c.args.items.now c.loop-index.index c.index-items-index.result c.loop-index.index _ _ _ c.loop-index-test.true
    c.index-items-index.is
    (omega arith) c.loop-index.invariant c.in_ok-note_item.ensures
