-- What the public laws state, for the proofs of the crates above: a lemma for each clause.
pub use Rattle.mvt_tasks.proofs.OneReply.{has_reply as one_reply_there, has_one_reply as one_reply_once}
use Rattle.std.specs.Prelude.{ℕ, List, Option}
use Rattle.mvt_io.specs.States.{Outflow}
use Rattle.mvt_tasks.specs.Checks.{EndsEarly, RunState, Prints, SaysOf}
use Rattle.mvt_tasks.specs.declared.failure.Failure.TheVariants.{Memory}
use Rattle.mvt_tasks.specs.declared.task.Task.{Task}
use Rattle.mvt_tasks.proofs.CheckLemmas.{cut_at_start}

pub cut_at_first : (limit : ℕ) (task : Task) (holds : List ℕ → Option (List ℕ)) (names : List (List ℕ)) (old : RunState)
    (errors : Outflow) (line : List ℕ) → Prints old.errors errors line
    → EndsEarly (SaysOf limit task) holds names old (record old { errors = errors }) line Memory
cut_at_first limit task = cut_at_start (SaysOf limit task)
