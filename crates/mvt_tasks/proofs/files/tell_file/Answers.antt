use Rattle.std.proofs.Common.{[]}
use Rattle.std.proofs.lemmas.Result.{err_from_is_err_and}
use Rattle.mvt_base.specs.declared.TheConstants.{LIMIT}
use Rattle.mvt_tasks.specs.Checks.{SaysOf}
use Rattle.mvt_tasks.proofs.CheckLemmas.{adds_nothing, said_held}
use Rattle.mvt_tasks.proofs.files.tell_file.Goals as goal

pub returns-in_err-text-clause-asked : goal.returns-in_err-text-clause-asked
returns-in_err-text-clause-asked g c =
    let p = err_from_is_err_and c.from_residual.result c.from_residual.ensures.1 in
    rw p.1 ([], tt, adds_nothing _)

pub returns-in-Ok-told-clause-said : goal.returns-in-Ok-told-clause-said
returns-in-Ok-told-clause-said g c =
    said_held (SaysOf LIMIT c.args.task.now) (g.F.Folder.holds c.args.folder.now c.args.name.now) _ c.in-Ok-told.reply
    c.in-Ok.ensures.bytes c.in-Ok-told.ensures.reply
