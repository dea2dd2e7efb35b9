use Rattle.std.proofs.Common.{arith, ◌≡◌, ◌+◌, ◌-◌, ◌*◌, take, drop, ap}
use Rattle.std.proofs.lemmas.Result.{err_from_is_err_and}
use Rattle.mvt_geometry.specs.declared.command.Command.TheVariants.{ClosePath}
use Rattle.mvt_geometry.specs.Commands.{may_not_end}
use Rattle.mvt_geometry.proofs.CommandLemmas.{header_stops, pairs_stop, goes_on, no_ring}
use Rattle.mvt_geometry.proofs.judging.judge_command.Goals as goal

pub returns-in_err-count-clause-err : goal.returns-in_err-count-clause-err
returns-in_err-count-clause-err c =
    let p = err_from_is_err_and c.from_residual.result c.from_residual.ensures.1 in
    rw (p.1, p.2) (λ k is_due r must. header_stops r c.args.command is_due _ (c.in_err-count.ensures.err (may_not_end c.args.kind k) must))

pub returns-in_err-cursor-clause-err : goal.returns-in_err-cursor-clause-err
returns-in_err-cursor-clause-err c =
    let g = c.args.integers.now in
    let s = c.args.pen.at in
    let n = c.in_ok-count.count in
    let length_is : (s + 1 + 2 * n) - (s + 1) ≡ 2 * n = omega arith in
    let reported = rw c.is_line.ensures at c.in_err-cursor.ensures.err in
    let p = err_from_is_err_and c.from_residual-in_err-cursor.result c.from_residual-in_err-cursor.ensures.1 in
    rw (p.1, p.2)
    (λ k is_due r must. pairs_stop r c.args.command is_due c.in_ok-count.ensures.ok n c.in_ok-count.ensures.count
    (take ((s + 1 + 2 * n) - (s + 1)) (drop (s + 1) g)) (ap (λ m. take m (drop (s + 1) g)) length_is) _ reported)

pub returns-clause-ok : goal.returns-clause-ok
returns-clause-ok c = λ k is_due r.
    let g = c.args.integers.now in
    let s = c.args.pen.at in
    let n = c.in_ok-count.count in
    let length_is : (s + 1 + 2 * n) - (s + 1) ≡ 2 * n = omega arith in
    let none = rw c.is_line.ensures at c.in_ok-cursor.ensures.ok in
    goes_on r c.args.command is_due c.in_ok-count.ensures.ok n c.in_ok-count.ensures.count
    (take ((s + 1 + 2 * n) - (s + 1)) (drop (s + 1) g)) (ap (λ m. take m (drop (s + 1) g)) length_is)
    c.in_ok-cursor.cursor c.in_ok-cursor.ensures.cursor none
    (no_ring c.args.kind g k s (λ same. let is : c.args.command ≡ ClosePath = cc in c.requires.has_pairs is))
