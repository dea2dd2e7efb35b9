use Rattle.std.proofs.Common.{◌≡◌, ◌++◌, take}
use Rattle.mvt_tile_value.specs.Lint.{item_findings}
use Rattle.mvt_tile_value.specs.Notes.{numbered}
use Rattle.mvt_tile_value.proofs.linting.lint_items.Given as goal

abbrev pub invariant-loop-index : goal.invariant-loop-index
invariant-loop-index l = l.findings.items ≡ l.initial.findings.items ++ numbered item_findings 0 (take l.index l.items)
