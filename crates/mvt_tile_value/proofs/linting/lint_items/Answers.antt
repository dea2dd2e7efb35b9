use Rattle.std.proofs.Common.{arith}
use Rattle.mvt_tile_value.specs.Lint.{item_findings}
use Rattle.mvt_tile_value.proofs.NoteLemmas.{noted_more}
use Rattle.mvt_tile_value.proofs.linting.lint_items.Goals as goal

pub loop-index-preserved : goal.loop-index-preserved
loop-index-preserved c =
    noted_more item_findings 0 c.args.items.now c.loop-index.index c.index-items-index.result c.loop-index.index _ _ _ c.loop-index-test.true
    c.index-items-index.is
    (omega arith) c.loop-index.invariant c.in_ok-lint_item.ensures
