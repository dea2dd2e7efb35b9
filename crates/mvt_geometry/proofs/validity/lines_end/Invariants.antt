use Rattle.std.proofs.Common.{◌≡◌, drop}
use Rattle.mvt_geometry.specs.Inner.Validity.{AreLinesFrom, end_of_lines}
use Rattle.mvt_geometry.proofs.validity.lines_end.Given as goal

abbrev pub invariant-loop-line : goal.invariant-loop-line
invariant-loop-line l =
    (AreLinesFrom l.least l.initial.cursor l.lines → AreLinesFrom l.least l.cursor (drop l.line-index l.lines))
    × (AreLinesFrom l.least l.cursor (drop l.line-index l.lines) → AreLinesFrom l.least l.initial.cursor l.lines)
    × (end_of_lines l.cursor (drop l.line-index l.lines) ≡ end_of_lines l.initial.cursor l.lines)
