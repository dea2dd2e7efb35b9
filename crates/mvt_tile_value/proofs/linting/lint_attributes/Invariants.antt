use Rattle.std.proofs.Common.{◌≡◌, ◌++◌, take}
use Rattle.mvt_tile_value.specs.Lint.{attribute_findings}
use Rattle.mvt_tile_value.specs.Notes.{numbered}
use Rattle.mvt_tile_value.proofs.linting.lint_attributes.Given as goal

abbrev pub invariant-loop-number : goal.invariant-loop-number
invariant-loop-number l =
    l.findings.items ≡ l.initial.findings.items ++ numbered (attribute_findings l.layer l.feature) 0 (take l.number l.attributes)
