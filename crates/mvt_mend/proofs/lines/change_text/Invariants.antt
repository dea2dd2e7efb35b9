use Rattle.std.proofs.Common.{◌≡◌, take, string_bytes}
use Rattle.std.specs.List.{flat_map}
use Rattle.mvt_mend.specs.ChangeLines.{change_line}
use Rattle.mvt_mend.proofs.lines.change_text.Given as goal

abbrev pub invariant-loop-change : goal.invariant-loop-change
invariant-loop-change l = string_bytes l.text ≡ flat_map change_line (take l.change-index l.changes)
