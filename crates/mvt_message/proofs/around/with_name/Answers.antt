use Rattle.mvt_message.proofs.AroundLemmas.{name_is}
use Rattle.mvt_message.proofs.around.with_name.Goals as goal

pub returns-clause-field : goal.returns-clause-field
returns-clause-field c =
    name_is c.args.body.now c.args.at c.in-Some.after c.in-Some.name c.args.before.now c.in-None.is c.in-Some.ensures.field
    c.in-Some.ensures.text c.in-Some.ensures.short
