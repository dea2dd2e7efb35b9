use Rattle.std.proofs.Common.{arith}
use Rattle.mvt_tile_value.specs.Lint.{feature_findings}
use Rattle.mvt_tile_value.proofs.NoteLemmas.{noted_more}
use Rattle.mvt_tile_value.proofs.linting.lint_features.Goals as goal

pub loop-number-preserved : goal.loop-number-preserved
loop-number-preserved c =
    noted_more (feature_findings c.args.layer c.args.extent) 0 c.args.features.now c.loop-number.number c.index-features-number.result
    c.loop-number.number _ _ _ c.loop-number-test.true c.index-features-number.is
    (omega arith) c.loop-number.invariant c.in_ok-lint_feature.ensures
