use Rattle.mvt_wire.proofs.WireLaws.{short_packed_packed, short_packed_only}
use Rattle.mvt_wire.proofs.laws.short_packed.Goals as goal

pub returns-clause-packed : goal.returns-clause-packed
returns-clause-packed c = short_packed_packed

pub returns-clause-only : goal.returns-clause-only
returns-clause-only c = short_packed_only
