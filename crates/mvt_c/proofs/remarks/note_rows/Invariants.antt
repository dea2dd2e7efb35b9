use Rattle.std.proofs.Common.{◌≡◌, map, take}
use Rattle.mvt_c.specs.Remarks.{row_of_note}
use Rattle.mvt_c.proofs.remarks.note_rows.Given as goal

abbrev pub invariant-loop-note : goal.invariant-loop-note
invariant-loop-note l = l.rows.items ≡ map row_of_note (take l.note-index l.notes)
