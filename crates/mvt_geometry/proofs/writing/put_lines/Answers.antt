use Rattle.std.proofs.Common.{subst}
use Rattle.std.proofs.lemmas.Result.{err_from_is_err_and}
use Rattle.mvt_geometry.specs.Inner.Writing.{ending, AreShort}
use Rattle.mvt_geometry.proofs.WritingLemmas.{begins_more, begins_on, item_at, steps_of, steps_after, end_after, stroke_step}
use Rattle.mvt_geometry.proofs.writing.put_lines.Goals as goal

pub put_line-requires-clause-steps : goal.put_line-requires-clause-steps
put_line-requires-clause-steps g c =
    let l = c.loop-line in
    let e = item_at c.args.lines.now l.line-index c.line-item.result c.loop-line-test.true c.line-item.is in
    steps_of l.cursor c.as_slice.result.now c.line-item.result _ _ e c.as_slice.ensures l.invariant.2

pub loop-line-preserved : goal.loop-line-preserved
loop-line-preserved g c =
    let l = c.loop-line in
    let e = item_at c.args.lines.now l.line-index c.line-item.result c.loop-line-test.true c.line-item.is in
    let last = c.in_ok-cursor.ensures.last in (
      stroke_step _ _ _ (ending c.args.are_rings) l.cursor c.in_ok-cursor.cursor c.as_slice.result.now c.line-item.result _ _ e
          c.as_slice.ensures last c.in_ok-cursor.ensures.integers l.invariant.0,
      end_after l.cursor c.in_ok-cursor.cursor _ c.as_slice.result.now c.line-item.result _ _ e c.as_slice.ensures last
          l.invariant.1,
      steps_after l.cursor c.in_ok-cursor.cursor c.as_slice.result.now c.line-item.result _ _ e c.as_slice.ensures last
          l.invariant.2,
      (subst AreShort e l.invariant.3).1,
      begins_more (g.N.NumberList.numbers c.args.integers.now) _ _ _ l.invariant.4 c.in_ok-cursor.ensures.integers,
    )

pub returns-in_err-cursor-clause-left : goal.returns-in_err-cursor-clause-left
returns-in_err-cursor-clause-left g c =
    let p = err_from_is_err_and c.from_residual.result c.from_residual.ensures.1 in
    rw p.1 (begins_on (g.N.NumberList.numbers c.args.integers.now) _ _ c.loop-line.invariant.4 c.in_err-cursor.ensures.left)
