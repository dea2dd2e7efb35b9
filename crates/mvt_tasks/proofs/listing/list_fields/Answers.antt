use Rattle.std.proofs.lemmas.Result.{IfOk-weaker}
use Rattle.mvt_tasks.proofs.Fronts.{listed}
use Rattle.mvt_tasks.proofs.listing.list_fields.Goals as goal

pub returns-clause-reply : goal.returns-clause-reply
returns-clause-reply g c =
    IfOk-weaker c.listed.result _ _ (λ reply is. listed _ (g.R.Source.state c.args.reader.now).left _ _ reply
    c.in_ok-input.ensures.read.known c.deref.ensures.value is) c.listed.ensures.reply
