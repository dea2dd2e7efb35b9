use Rattle.mvt_tile_value.proofs.NoteLemmas.{all_noted}
use Rattle.mvt_tile_value.proofs.noting.notes.Goals as goal

pub returns : goal.returns
returns c =
    all_noted c.args.tile.now c.as_slice-items.result.now _ _ _ c.is_empty.result c.as_slice-items.ensures c.new-notes.ensures.items
    c.is_empty.ensures c.in_ok-note_if.ensures c.in_ok-note_items.ensures
