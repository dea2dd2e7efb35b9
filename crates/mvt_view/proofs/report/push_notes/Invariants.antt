use Rattle.std.proofs.Common.{◌≡◌, ◌++◌, take, string_bytes}
use Rattle.std.specs.List.{flat_map}
use Rattle.mvt_view.specs.Reports.{note_line}
use Rattle.mvt_view.proofs.report.push_notes.Given as goal

abbrev pub invariant-loop-note : goal.invariant-loop-note
invariant-loop-note l =
    string_bytes l.text ≡ string_bytes l.initial.text ++ flat_map note_line (take l.note-index l.notes)
