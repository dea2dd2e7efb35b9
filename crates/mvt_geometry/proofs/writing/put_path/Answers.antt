use Rattle.std.proofs.Common.{rules, ◌≡◌, [], ◌∷◌, ◌++◌, get_or, pos, sym, ap, ap₂, subst, ◌∙◌, to_z, of_z, w32}
use Rattle.std.proofs.lemmas.List.{drop_more}
use Rattle.std.proofs.lemmas.Result.{err_from_is_err_and}
use Rattle.mvt_wire.specs.Zigzag.{zig}
use Rattle.mvt_geometry.specs.declared.shape.Point.{Point}
use Rattle.mvt_geometry.specs.Shape.{AreSteps, last_of}
use Rattle.mvt_geometry.proofs.WritingLemmas.{begins_same, begins_more, difference, path_step}
use Rattle.mvt_geometry.proofs.writing.put_path.Goals as goal

abbrev place : Point
place = record { x = pos 0; y = pos 0 }

pub overflow_sub-point-in-loop-point : goal.overflow_sub-point-in-loop-point
overflow_sub-point-in-loop-point g c =
    let l = c.loop-point in
    let step = subst (AreSteps l.cursor) (drop_more c.args.points.now l.point-index place c.loop-point-test.true) l.invariant.2 in
    let here : to_z w32 (of_z w32 (get_or c.args.points.now l.point-index place).y)
    ≡ (get_or c.args.points.now l.point-index place).y =
    search rules in
    let before : to_z w32 (of_z w32 l.cursor.y) ≡ l.cursor.y = search rules in
    (difference _ _ _ _ here before step.0.1).0

pub loop-point-preserved : goal.loop-point-preserved
loop-point-preserved g c =
    let l = c.loop-point in
    let p = get_or c.args.points.now l.point-index place in
    let e = drop_more c.args.points.now l.point-index place c.loop-point-test.true in
    let step = subst (AreSteps l.cursor) e l.invariant.2 in
    let here_x : to_z w32 (of_z w32 p.x) ≡ p.x = search rules in
    let here_y : to_z w32 (of_z w32 p.y) ≡ p.y = search rules in
    let before_x : to_z w32 (of_z w32 l.cursor.x) ≡ l.cursor.x = search rules in
    let before_y : to_z w32 (of_z w32 l.cursor.y) ≡ l.cursor.y = search rules in
    let x = c.zigzag32.ensures ∙ ap zig ((difference _ _ _ _ here_x before_x step.0.0).1) in
    let y = c.zigzag32-in-loop-point.ensures ∙ ap zig ((difference _ _ _ _ here_y before_y step.0.1).1) in
    let put =
    c.in_ok-push_number-2.ensures.ok
    ∙ ap₂ (λ xs n. xs ++ n ∷ [])
    (c.in_ok-push_number.ensures.ok ∙ ap (λ n. (g.N.NumberList.numbers l.integers) ++ n ∷ []) x) y in (
      path_step (g.N.NumberList.numbers l.integers) _ _ l.cursor p _ _ e put l.invariant.0,
      ap (last_of l.cursor) (sym e) ∙ l.invariant.1,
      step.1,
      begins_more (g.N.NumberList.numbers c.args.integers.now) _ _ _
          (begins_more (g.N.NumberList.numbers c.args.integers.now) _ _ _ l.invariant.3 c.in_ok-push_number.ensures.ok)
          c.in_ok-push_number-2.ensures.ok,
    )

pub returns-in_err-push_number-clause-left : goal.returns-in_err-push_number-clause-left
returns-in_err-push_number-clause-left g c =
    let p = err_from_is_err_and c.from_residual.result c.from_residual.ensures.1 in
    rw p.1 (begins_same (g.N.NumberList.numbers c.args.integers.now) _ _ c.loop-point.invariant.3 c.in_err-push_number.ensures.err)

pub returns-in_err-push_number-2-clause-left : goal.returns-in_err-push_number-2-clause-left
returns-in_err-push_number-2-clause-left g c =
    let p = err_from_is_err_and c.from_residual-in_err-push_number-2.result c.from_residual-in_err-push_number-2.ensures.1 in
    rw p.1
    (begins_same (g.N.NumberList.numbers c.args.integers.now) _ _
    (begins_more (g.N.NumberList.numbers c.args.integers.now) _ _ _ c.loop-point.invariant.3 c.in_ok-push_number.ensures.ok)
    c.in_err-push_number-2.ensures.err)
