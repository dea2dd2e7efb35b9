use Rattle.std.proofs.Common.{refl}
use Rattle.std.proofs.lemmas.Result.{err_from_is_err_and}
use Rattle.mvt_geometry.specs.declared.shape.Kind.TheVariants as kinds
use Rattle.mvt_geometry.proofs.CommandLemmas.{first_command, one_command, may_end}
use Rattle.mvt_geometry.proofs.judging.judge_points.Goals as goal

pub returns-in_err-pen-clause-err : goal.returns-in_err-pen-clause-err
returns-in_err-pen-clause-err c =
    let p = err_from_is_err_and c.from_residual.result c.from_residual.ensures.1 in
    rw (p.1, p.2) (c.in_err-pen.ensures.err 0 refl (first_command kinds.Point c.args.integers.now) (λ e. refl))

pub returns-then-pen-integers-clause-err : goal.returns-then-pen-integers-clause-err
returns-then-pen-integers-clause-err c =
    one_command (c.in_ok-pen.ensures.ok 0 refl (first_command kinds.Point c.args.integers.now)) c.if-pen-integers.true

pub returns-clause-ok : goal.returns-clause-ok
returns-clause-ok c =
    may_end (λ same. cc) (c.in_ok-pen.ensures.ok 0 refl (first_command kinds.Point c.args.integers.now)) c.if-pen-integers.false
    refl (λ same. cc)
