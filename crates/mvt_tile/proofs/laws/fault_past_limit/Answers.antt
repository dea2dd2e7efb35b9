use Rattle.mvt_tile.proofs.TileLaws.{fault_past_limit}
use Rattle.mvt_tile.proofs.laws.fault_past_limit.Goals as goal

pub returns : goal.returns
returns c = fault_past_limit
