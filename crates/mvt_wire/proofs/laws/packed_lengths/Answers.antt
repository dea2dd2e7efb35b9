use Rattle.mvt_wire.proofs.WireLaws.{packed_lengths}
use Rattle.mvt_wire.proofs.laws.packed_lengths.Goals as goal

pub returns : goal.returns
returns c = packed_lengths
