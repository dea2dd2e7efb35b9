use Rattle.mvt_wire.proofs.WireLaws.{packed_function_clean, packed_function_only}
use Rattle.mvt_wire.proofs.laws.packed_function.Goals as goal

pub returns-clause-clean : goal.returns-clause-clean
returns-clause-clean c = packed_function_clean

pub returns-clause-only : goal.returns-clause-only
returns-clause-only c = packed_function_only
