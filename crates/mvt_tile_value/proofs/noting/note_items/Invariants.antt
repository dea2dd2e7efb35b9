use Rattle.std.proofs.Common.{◌≡◌, ◌++◌, take}
use Rattle.mvt_tile_value.specs.Notes.{numbered, item_notes}
use Rattle.mvt_tile_value.proofs.noting.note_items.Given as goal

abbrev pub invariant-loop-index : goal.invariant-loop-index
invariant-loop-index l = l.notes.items ≡ l.initial.notes.items ++ numbered item_notes 0 (take l.index l.items)
