use Rattle.mvt_wire.proofs.WireLaws.{zigzag_function_number, zigzag_function_code}
use Rattle.mvt_wire.proofs.laws.zigzag_function.Goals as goal

pub returns-clause-number : goal.returns-clause-number
returns-clause-number c = zigzag_function_number

pub returns-clause-code : goal.returns-clause-code
returns-clause-code c = zigzag_function_code
