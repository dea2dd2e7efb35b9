use Rattle.std.proofs.lemmas.Result.{IfOk-weaker}
use Rattle.mvt_tasks.proofs.Fronts.{mended}
use Rattle.mvt_tasks.proofs.mending.mend.Goals as goal

pub returns-clause-reply : goal.returns-clause-reply
returns-clause-reply g c =
    IfOk-weaker c.mended.result _ _ (λ reply is. mended (g.R.Source.state c.args.reader.now).left _ _ reply
    c.in_ok-input.ensures.read.known c.deref.ensures.value is) c.mended.ensures.reply
