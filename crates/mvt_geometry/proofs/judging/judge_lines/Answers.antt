use Rattle.std.proofs.Common.{arith, refl, suc, [], length, ap, subst}
use Rattle.mvt_geometry.proofs.LineLemmas.{line_due, lines_may_end}
use Rattle.mvt_geometry.proofs.CountLemmas.{Left, line_parts, none_left, some_left, line_passed}
use Rattle.mvt_geometry.specs.declared.shape.Kind.TheVariants as kinds
use Rattle.mvt_geometry.proofs.CommandLemmas.{first_command, may_end, some_command}
use Rattle.mvt_geometry.proofs.judging.judge_lines.Goals as goal

pub loop-pen-init : goal.loop-pen-init
loop-pen-init c = ((0, refl, first_command kinds.LineString c.args.integers.now), omega arith, λ ls left. (ls, left, omega arith))

pub returns-clause-ok : goal.returns-clause-ok
returns-clause-ok c =
    let inv = c.loop-pen.invariant.0 in
    let may = lines_may_end inv.0 inv.1 (some_command inv.2 (omega arith)) in
    may_end (λ same. cc) inv.2 c.loop-pen-test.false may.0 may.1

pub returns-clause-count : goal.returns-clause-count
returns-clause-count c = λ geometry draws.
    let g = c.args.integers.now in
    let parts = line_parts g geometry draws in
    let left = c.loop-pen.invariant.2 parts.0 parts.1 in
    let none = none_left 2 [] g c.loop-pen.pen.at c.loop-pen.pen.cursor left.0 (omega arith) left.1 c.loop-pen-test.false in
    omega (arith, ap length none, left.2, parts.2)

pub loop-pen-preserved : goal.loop-pen-preserved
loop-pen-preserved c =
    let g = c.args.integers.now in
    let k = c.loop-pen.invariant.0.0 in
    let is_due = line_due k c.loop-pen.invariant.0.1 in
    let here = c.loop-pen.invariant.0.2 in
    let next = c.in_ok-pen.ensures.ok (suc k) is_due.1 (c.in_ok-first.ensures.ok k is_due.0 here) in (
      (suc (suc k), omega (arith, c.loop-pen.invariant.0.1), next),
      omega (arith, c.loop-pen.invariant.1, c.in_ok-first.ensures.further, c.in_ok-pen.ensures.further),
      λ ls all.
          let left = c.loop-pen.invariant.2 ls all in
          let some = some_left 2 [] g c.loop-pen.pen.at c.loop-pen.pen.cursor left.0 (omega arith) left.1 c.loop-pen-test.true in (
            some.2,
            line_passed g k c.loop-pen.pen.at _ c.loop-pen.pen.cursor _ some.0 some.1 some.2 here c.loop-pen.invariant.0.1
                (subst (Left 2 [] g c.loop-pen.pen.at c.loop-pen.pen.cursor) some.3 left.1) next,
            omega (arith, ap length some.3, left.2),
          ),
    )
