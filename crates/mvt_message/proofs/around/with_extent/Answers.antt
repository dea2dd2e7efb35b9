use Rattle.std.proofs.Common.{arith}
use Rattle.mvt_message.proofs.AroundLemmas.{extent_is}
use Rattle.mvt_message.proofs.around.with_extent.Goals as goal

pub returns-in-Some-clause-field : goal.returns-in-Some-clause-field
returns-in-Some-clause-field c =
    extent_is c.args.body.now c.args.at c.in-Some.after c.in-Some.extent c.args.before.now c.in-None.is c.in-Some.ensures.field
    (omega (arith, c.if-extent.true))
