use Rattle.std.proofs.Common.{◌++◌, ap₂, ◌∙◌}
use Rattle.mvt_tile_value.specs.Lint.{findings_of, item_findings}
use Rattle.mvt_tile_value.specs.Notes.{numbered}
use Rattle.mvt_tile_value.proofs.linting.lint.Goals as goal

pub returns : goal.returns
unfolding findings_of
returns c =
    c.in_ok-lint_items.ensures ∙ ap₂ (λ start items. start ++ numbered item_findings 0 items) c.new-findings.ensures.items c.as_slice.ensures
