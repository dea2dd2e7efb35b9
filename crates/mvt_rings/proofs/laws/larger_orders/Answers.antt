use Rattle.mvt_rings.proofs.RingLaws.{larger_orders_irreflexive, larger_orders_numbered, larger_orders_total, larger_orders_transitive}
use Rattle.mvt_rings.proofs.laws.larger_orders.Goals as goal

pub returns-clause-irreflexive : goal.returns-clause-irreflexive
returns-clause-irreflexive c = larger_orders_irreflexive

pub returns-clause-transitive : goal.returns-clause-transitive
returns-clause-transitive c = larger_orders_transitive

pub returns-clause-total : goal.returns-clause-total
returns-clause-total c = larger_orders_total

pub returns-clause-numbered : goal.returns-clause-numbered
returns-clause-numbered c = larger_orders_numbered
