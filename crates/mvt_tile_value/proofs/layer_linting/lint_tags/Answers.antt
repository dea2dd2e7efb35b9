use Rattle.std.proofs.Common.{◌++◌, ◌<◌, ◌≤◌, ◌∙◌, ap, arith, length}
use Rattle.std.proofs.lemmas.List.{take_all}
use Rattle.mvt_tile_value.specs.Lint.{attribute_findings}
use Rattle.mvt_tile_value.specs.Notes.{numbered}
use Rattle.mvt_tile_value.proofs.LintingLemmas.{tag_linted}
use Rattle.mvt_tile_value.proofs.layer_linting.lint_tags.Goals as goal

pub loop-number-preserved : goal.loop-number-preserved
loop-number-preserved c = λ keys values attributes large names.
    let n = c.loop-number.number in
    let within : n < length attributes = omega (arith, c.loop-number-test.true, names.twice) in
    tag_linted c.args.layer c.args.feature n keys values c.args.tags.now attributes c.is_large_at-is_large.result _ _ _ within names
    (λ value here. c.is_large_at-is_large.ensures values value large here)
    (c.loop-number.invariant keys values attributes large names) c.in_ok-push_if.ensures.ok

pub returns : goal.returns
returns c = λ keys values attributes large names.
    let all : length attributes ≤ c.loop-number.number = omega (arith, c.loop-number-test.false, names.twice) in
    c.loop-number.invariant keys values attributes large names
    ∙ ap (λ xs. c.args.findings.now.items ++ numbered (attribute_findings c.args.layer c.args.feature) 0 xs)
    (take_all c.loop-number.number attributes all)
