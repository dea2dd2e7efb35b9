use Rattle.std.proofs.Common.{◌≡◌, inl, inr, refl, arith}
use Rattle.mvt_tasks.specs.declared.failure.Failure.TheVariants.{Write}
use Rattle.mvt_tasks.proofs.running.run_task.Goals as goal

pub returns-in-Ok-clause-done : goal.returns-in-Ok-clause-done
returns-in-Ok-clause-done g c = λ given. (c.in-Ok.reply, c.in-Ok.ensures.reply, c.in-Ok.ensures.output, c.give.ensures.done given)

pub returns-in-Ok-clause-failed : goal.returns-in-Ok-clause-failed
returns-in-Ok-clause-failed g c = λ large small.
    let three : c.give.result ≡ 3 =
    elim c.give.ensures.statuses [ inl (inl less) ↦ omega arith | inl (inr five) ↦ omega arith | inr is ↦ is ] in (
      Write,
      three,
      c.give.ensures.line three,
      inr (refl, c.in-Ok.ensures.sound, c.give.ensures.failed three, (c.in-Ok.reply, c.in-Ok.ensures.reply, c.give.ensures.prefix three)),
    )

pub returns-in-Err-clause-failed : goal.returns-in-Err-clause-failed
returns-in-Err-clause-failed g c = λ large small. (
  c.in-Err.failure,
  c.fail.ensures.status,
  c.fail.ensures.line,
  inl (c.in-Err.ensures.failed, refl),
)
