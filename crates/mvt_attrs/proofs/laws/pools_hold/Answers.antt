use Rattle.mvt_attrs.proofs.AttrsLaws.{pools_hold}
use Rattle.mvt_attrs.proofs.laws.pools_hold.Goals as goal

pub returns : goal.returns
returns c = pools_hold
