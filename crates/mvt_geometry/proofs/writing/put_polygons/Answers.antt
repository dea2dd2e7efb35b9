use Rattle.std.proofs.Common.{◌+◌, [], ◌∷◌, ◌++◌, drop, sym, ap, subst, ◌∙◌}
use Rattle.mvt_base.proofs.ListLemmas.{all_left, all_right}
use Rattle.std.proofs.lemmas.Result.{err_from_is_err_and}
use Rattle.mvt_geometry.specs.Shape.{AreSteps, joined, rings_of, last_of}
use Rattle.mvt_geometry.specs.Inner.Writing.{IsShort, AreShort}
use Rattle.mvt_geometry.proofs.WritingLemmas.{begins_more, begins_on, item_at, rings_at, steps_of, steps_after, stroke_step, strokes_step, strokes_front, strokes_back}
use Rattle.mvt_geometry.proofs.writing.put_polygons.Goals as goal
use Rattle.mvt_geometry.specs.Drawing.{strokes}

pub put_line-requires-clause-steps : goal.put_line-requires-clause-steps
put_line-requires-clause-steps g c =
    let l = c.loop-polygon in
    let e =
    rings_at _ _ c.polygon-item.result
    (item_at c.args.polygons.now l.polygon-index c.polygon-item.result c.loop-polygon-test.true c.polygon-item.is) in
    steps_of l.cursor c.as_slice.result.now c.polygon-item.result.outer _ _ e c.as_slice.ensures l.invariant.1

pub put_lines-requires-clause-steps : goal.put_lines-requires-clause-steps
put_lines-requires-clause-steps g c =
    let l = c.loop-polygon in
    let e =
    rings_at _ _ c.polygon-item.result
    (item_at c.args.polygons.now l.polygon-index c.polygon-item.result c.loop-polygon-test.true c.polygon-item.is) in
    let after =
    steps_after l.cursor c.in_ok-cursor.cursor c.as_slice.result.now c.polygon-item.result.outer _ _ e c.as_slice.ensures
    c.in_ok-cursor.ensures.last l.invariant.1 in
    subst (λ ls. AreSteps c.in_ok-cursor.cursor (joined ls)) (sym c.as_slice-in-loop-polygon.ensures)
    (strokes_front c.in_ok-cursor.cursor c.polygon-item.result.rest (rings_of (drop (l.polygon-index + 1) c.args.polygons.now))
    after)

pub put_lines-requires-clause-short : goal.put_lines-requires-clause-short
put_lines-requires-clause-short g c =
    let l = c.loop-polygon in
    let e =
    rings_at _ _ c.polygon-item.result
    (item_at c.args.polygons.now l.polygon-index c.polygon-item.result c.loop-polygon-test.true c.polygon-item.is) in
    subst AreShort (sym c.as_slice-in-loop-polygon.ensures)
    (all_left IsShort c.polygon-item.result.rest (rings_of (drop (l.polygon-index + 1) c.args.polygons.now))
    (subst AreShort e l.invariant.2).1)

pub loop-polygon-preserved : goal.loop-polygon-preserved
loop-polygon-preserved g c =
    let l = c.loop-polygon in
    let p = c.polygon-item.result in
    let more = rings_of (drop (l.polygon-index + 1) c.args.polygons.now) in
    let e = rings_at _ _ p (item_at c.args.polygons.now l.polygon-index p c.loop-polygon-test.true c.polygon-item.is) in
    let after =
    steps_after l.cursor c.in_ok-cursor.cursor c.as_slice.result.now p.outer _ _ e c.as_slice.ensures
    c.in_ok-cursor.ensures.last l.invariant.1 in
    let outer =
    stroke_step _ _ _ (15 ∷ []) l.cursor c.in_ok-cursor.cursor c.as_slice.result.now p.outer _ _ e c.as_slice.ensures
    c.in_ok-cursor.ensures.last c.in_ok-cursor.ensures.integers l.invariant.0 in
    let rest_is = c.as_slice-in-loop-polygon.ensures in
    let last = c.in_ok-cursor-2.ensures.last ∙ ap (λ ls. last_of c.in_ok-cursor.cursor (joined ls)) rest_is in
    let put =
    c.in_ok-cursor-2.ensures.integers
    ∙ ap (λ ls. (g.N.NumberList.numbers c.put_line.new.integers) ++ strokes (15 ∷ []) c.in_ok-cursor.cursor ls) rest_is in (
      strokes_step _ _ _ (15 ∷ []) c.in_ok-cursor.cursor c.in_ok-cursor-2.cursor p.rest more last put outer,
      strokes_back c.in_ok-cursor.cursor c.in_ok-cursor-2.cursor p.rest more last after,
      all_right IsShort p.rest more (subst AreShort e l.invariant.2).1,
      begins_more (g.N.NumberList.numbers c.args.integers.now) _ _ _
          (begins_more (g.N.NumberList.numbers c.args.integers.now) _ _ _ l.invariant.3 c.in_ok-cursor.ensures.integers)
          c.in_ok-cursor-2.ensures.integers,
    )

pub returns-in_err-cursor-clause-left : goal.returns-in_err-cursor-clause-left
returns-in_err-cursor-clause-left g c =
    let p = err_from_is_err_and c.from_residual.result c.from_residual.ensures.1 in
    rw p.1 (begins_on (g.N.NumberList.numbers c.args.integers.now) _ _ c.loop-polygon.invariant.3 c.in_err-cursor.ensures.left)

pub returns-in_err-cursor-2-clause-left : goal.returns-in_err-cursor-2-clause-left
returns-in_err-cursor-2-clause-left g c =
    let p = err_from_is_err_and c.from_residual-in_err-cursor-2.result c.from_residual-in_err-cursor-2.ensures.1 in
    rw p.1
    (begins_on (g.N.NumberList.numbers c.args.integers.now) _ _
    (begins_more (g.N.NumberList.numbers c.args.integers.now) _ _ _ c.loop-polygon.invariant.3 c.in_ok-cursor.ensures.integers)
    c.in_err-cursor-2.ensures.left)
