use Rattle.std.proofs.Common.{◌≡◌, take, string_bytes}
use Rattle.std.specs.List.{flat_map}
use Rattle.mvt_view.specs.LintLines.{finding_line}
use Rattle.mvt_view.proofs.lint_lines.lint_text.Given as goal

abbrev pub invariant-loop-finding : goal.invariant-loop-finding
invariant-loop-finding l = string_bytes l.text ≡ flat_map finding_line (take l.finding-index l.findings)
