use Rattle.mvt_attrs.proofs.AttrsLaws.{fault_is_least_least, fault_is_least_parts}
use Rattle.mvt_attrs.proofs.laws.fault_is_least.Goals as goal

pub returns : goal.returns
returns c = record { least = fault_is_least_least; parts = fault_is_least_parts }
