use Rattle.std.proofs.Common.{◌-ℤ◌, Bool, sym, ◌∙◌}
use Rattle.mvt_geometry.specs.declared.shape.Point.{Point}
use Rattle.mvt_rows.specs.declared.undrawn.DrawingRule.TheVariants.{CoordinateRange, ParameterRange, ZeroSegment}
use Rattle.mvt_rows.specs.Undrawn.{is_out, is_zero}
use Rattle.mvt_rows.proofs.UndrawnLemmas.{rule_clear, rule_far, rule_out, rule_zero}
use Rattle.mvt_rows.proofs.writing.refused.step_rule.Goals as goal

abbrev is_far : Point → Point → Bool
is_far from to = is_out (to.x -ℤ from.x) (to.y -ℤ from.y)

pub returns-then-is_far : goal.returns-then-is_far
returns-then-is_far c =
    rule_far (is_far c.args.from c.args.to) (is_zero c.args.is_line c.args.from c.args.to) (is_out c.args.to.x c.args.to.y)
    ParameterRange ZeroSegment CoordinateRange (sym c.is_far.ensures ∙ c.if-is_far.true)

pub returns-then-is_zero : goal.returns-then-is_zero
returns-then-is_zero c =
    rule_zero (is_far c.args.from c.args.to) (is_zero c.args.is_line c.args.from c.args.to) (is_out c.args.to.x c.args.to.y)
    ParameterRange ZeroSegment CoordinateRange (sym c.is_far.ensures ∙ c.if-is_far.false) (sym c.is_zero.ensures ∙ c.if-is_zero.true)

pub returns-then-is_out : goal.returns-then-is_out
returns-then-is_out c =
    rule_out (is_far c.args.from c.args.to) (is_zero c.args.is_line c.args.from c.args.to) (is_out c.args.to.x c.args.to.y)
    ParameterRange ZeroSegment CoordinateRange (sym c.is_far.ensures ∙ c.if-is_far.false) (sym c.is_zero.ensures ∙ c.if-is_zero.false)
    (sym c.is_out.ensures ∙ c.if-is_out.true)

pub returns : goal.returns
returns c =
    sym (rule_clear (is_far c.args.from c.args.to) (is_zero c.args.is_line c.args.from c.args.to) (is_out c.args.to.x c.args.to.y)
    ParameterRange ZeroSegment CoordinateRange (sym c.is_far.ensures ∙ c.if-is_far.false) (sym c.is_zero.ensures ∙ c.if-is_zero.false)
    (sym c.is_out.ensures ∙ c.if-is_out.false))
