use Rattle.std.proofs.Common.{◌++◌, arith, ap, ◌∙◌}
use Rattle.mvt_tile_value.specs.declared.finding.Finding.TheVariants.{LargeNumber}
use Rattle.mvt_tile_value.specs.Lint.{attribute_findings, is_large_value}
use Rattle.mvt_tile_value.specs.Notes.{note_if}
use Rattle.mvt_tile_value.proofs.NoteLemmas.{noted_more}
use Rattle.mvt_tile_value.proofs.linting.lint_attributes.Goals as goal

pub loop-number-preserved : goal.loop-number-preserved
loop-number-preserved c =
    let n = c.loop-number.number in
    noted_more (attribute_findings c.args.layer c.args.feature) 0 c.args.attributes.now n c.index-attributes-number.result n _ _ _
    c.loop-number-test.true c.index-attributes-number.is (omega arith) c.loop-number.invariant
    (c.in_ok-push_if.ensures.ok
    ∙ ap (λ b. c.loop-number.findings.items ++ note_if b (LargeNumber c.args.layer c.args.feature n))
    (c.is_large_value-is_large.ensures ∙ ap is_large_value c.lent.ensures))
