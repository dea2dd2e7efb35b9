use Rattle.std.proofs.Common.{inr}
use Rattle.mvt_tasks.proofs.CheckLemmas.{cut_printed}
use Rattle.mvt_tasks.proofs.files.tell_files.Goals as goal

pub returns-in-Err-clause-printed : goal.returns-in-Err-clause-printed
returns-in-Err-clause-printed g c =
    inr (
      c.in-Err.failure,
      c.in-Err.ensures.failed,
      c.fail.ensures.status,
      cut_printed _ _ _ _ _ _ _ _ c.in-Err.ensures.cut c.fail.ensures.line,
      c.in-Err.ensures.unflushed,
    )
