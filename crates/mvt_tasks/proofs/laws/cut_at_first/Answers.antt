use Rattle.mvt_tasks.proofs.TasksLaws.{cut_at_first}
use Rattle.mvt_tasks.proofs.laws.cut_at_first.Goals as goal

pub returns : goal.returns
returns c = cut_at_first
