use Rattle.mvt_wire.proofs.WireLaws.{packed_is_least_ordered, packed_is_least_least}
use Rattle.mvt_wire.proofs.laws.packed_is_least.Goals as goal

pub returns-clause-ordered : goal.returns-clause-ordered
returns-clause-ordered c = packed_is_least_ordered

pub returns-clause-least : goal.returns-clause-least
returns-clause-least c = packed_is_least_least
