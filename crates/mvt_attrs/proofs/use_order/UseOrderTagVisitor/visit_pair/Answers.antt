use Rattle.mvt_attrs.proofs.FirstUsesLemmas.{order_more}
use Rattle.mvt_attrs.proofs.use_order.UseOrderTagVisitor.visit_pair.Goals as goal

pub returns-clause-told : goal.returns-clause-told
returns-clause-told c = λ start tags is _.
    order_more tags (start.keys, start.values) (c.args.self.now.keys, c.args.self.now.values)
    (c.in-Some.keys, c.in-Some-with_use.values) c.args.key c.args.value is c.in-Some.ensures c.in-Some-with_use.ensures
