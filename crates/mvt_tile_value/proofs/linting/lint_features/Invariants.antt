use Rattle.std.proofs.Common.{◌≡◌, ◌++◌, take}
use Rattle.mvt_tile_value.specs.Lint.{feature_findings}
use Rattle.mvt_tile_value.specs.Notes.{numbered}
use Rattle.mvt_tile_value.proofs.linting.lint_features.Given as goal

abbrev pub invariant-loop-number : goal.invariant-loop-number
invariant-loop-number l =
    l.findings.items ≡ l.initial.findings.items ++ numbered (feature_findings l.layer l.extent) 0 (take l.number l.features)
