use Rattle.mvt_wire.proofs.WireLaws.{bytes_lengths}
use Rattle.mvt_wire.proofs.laws.bytes_lengths.Goals as goal

pub returns : goal.returns
returns c = bytes_lengths
