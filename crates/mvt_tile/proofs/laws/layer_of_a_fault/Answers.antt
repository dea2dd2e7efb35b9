use Rattle.mvt_tile.proofs.TileLaws.{layer_of_a_fault}
use Rattle.mvt_tile.proofs.laws.layer_of_a_fault.Goals as goal

pub returns : goal.returns
returns c = layer_of_a_fault
