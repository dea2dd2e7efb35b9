use Rattle.std.proofs.Common.{◌≡◌, ◌<◌, inl, inr, refl, subst, map, string_bytes, arith}
use Rattle.mvt_base.specs.declared.TheConstants.{LIMIT}
use Rattle.std.proofs.lemmas.Grind.{common_steps}
use Rattle.mvt_tasks.specs.declared.failure.Failure.TheVariants.{Memory}
use Rattle.mvt_tasks.proofs.TasksLaws.{cut_at_first}
use Rattle.mvt_tasks.specs.declared.reply.Reply.{Reply}
use Rattle.mvt_tasks.specs.declared.task.Task.{Task}
use Rattle.mvt_tasks.specs.Checks.{Prints}
use Rattle.mvt_tasks.specs.Output.{GivesReply, HasOutput, IsReplyTo, PutOut}
use Rattle.mvt_words.specs.Words.{task_in}
use Rattle.mvt_cli.proofs.run.run.Goals as goal

pub returns-in-Err-clause-files : goal.returns-in-Err-clause-files
returns-in-Err-clause-files g c = λ some accepted.
    elim (c.refuse.ensures.statuses) [
      | inl two ↦ absurd (c.in-Err.ensures.usage (c.refuse.ensures.usage.0 two) accepted)
      | inr four ↦
          let above : 2 < c.refuse.result = omega arith in (
            inr (
              Memory,
              refl,
              four,
              cut_at_first LIMIT (task_in (map string_bytes c.args.words.now)) _ _ _ _ _
                  (c.refuse.ensures.line above),
              inl refl,
            ),
            (omega arith, grind (arith, common_steps)),
          )
    ]

pub returns-in-Err-clause-failed : goal.returns-in-Err-clause-failed
returns-in-Err-clause-failed g c = λ none above below.
    elim (c.refuse.ensures.statuses) [
      | inl two ↦ absurd (omega arith)
      | inr four ↦ (Memory, four, c.refuse.ensures.line above, inl (refl, refl))
    ]

pub returns-clause-done : goal.returns-clause-done
returns-clause-done g c = λ none given.
    subst
    (λ (task : Task). (reply : Reply) × IsReplyTo LIMIT task (g.R.Source.state c.args.reader.now).left reply × HasOutput reply
    × GivesReply c.run_task.result (c.run_task.new.writer ≡ c.args.writer.now)
    (PutOut (g.W.Sink.state c.args.writer.now) (g.W.Sink.state c.run_task.new.writer)) (c.run_task.new.errors ≡ c.args.errors.now)
    (Prints (g.E.Sink.state c.args.errors.now) (g.E.Sink.state c.run_task.new.errors)) reply)
    c.in-Ok.ensures.task (c.run_task.ensures.done given)
