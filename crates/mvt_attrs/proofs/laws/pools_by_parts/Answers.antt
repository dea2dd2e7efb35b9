use Rattle.mvt_attrs.proofs.AttrsLaws.{pools_by_parts_keys, pools_by_parts_values}
use Rattle.mvt_attrs.proofs.laws.pools_by_parts.Goals as goal

pub returns : goal.returns
returns c = record { keys = pools_by_parts_keys; values = pools_by_parts_values }
