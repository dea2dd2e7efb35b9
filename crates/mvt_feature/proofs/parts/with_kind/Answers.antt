use Rattle.mvt_feature.proofs.OrderingLemmas.{kind_met}
use Rattle.mvt_feature.proofs.parts.with_kind.Goals as goal

pub returns-clause-met : goal.returns-clause-met
returns-clause-met c = λ met.
    kind_met c.args.payload.now c.args.at c.in_ok-kind.after c.args.before.now met c.in_ok-kind.kind c.in-Unknown.is
    c.in_ok-kind.ensures.known c.in_ok-kind.ensures.front
