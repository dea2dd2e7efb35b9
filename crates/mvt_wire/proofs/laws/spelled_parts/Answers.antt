use Rattle.mvt_wire.proofs.WireLaws.{spelled_parts}
use Rattle.mvt_wire.proofs.laws.spelled_parts.Goals as goal

pub returns : goal.returns
returns c = spelled_parts
