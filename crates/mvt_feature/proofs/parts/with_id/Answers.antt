use Rattle.std.proofs.Common.{rules}
use Rattle.mvt_feature.proofs.OrderingLemmas.{id_met}
use Rattle.mvt_feature.proofs.parts.with_id.Goals as goal

pub returns-clause-met : goal.returns-clause-met
returns-clause-met c = λ met.
    id_met c.args.payload.now c.args.at c.in-Some.after c.args.before.now met c.in-Some.id c.in-None.is c.in-Some.ensures.field
    (search rules)
