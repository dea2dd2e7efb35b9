use Rattle.mvt_tasks.proofs.TasksLaws.{one_reply_there, one_reply_once}
use Rattle.mvt_tasks.proofs.laws.one_reply.Goals as goal

pub returns : goal.returns
returns c = record { there = one_reply_there; once = one_reply_once }
