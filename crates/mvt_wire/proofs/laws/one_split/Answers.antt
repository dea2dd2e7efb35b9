use Rattle.mvt_wire.proofs.WireLaws.{one_split}
use Rattle.mvt_wire.proofs.laws.one_split.Goals as goal

pub returns : goal.returns
returns c = one_split
