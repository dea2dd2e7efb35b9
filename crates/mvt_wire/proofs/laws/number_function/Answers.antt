use Rattle.mvt_wire.proofs.WireLaws.{number_function_spelled, number_function_number, number_function_none, number_function_cause}
use Rattle.mvt_wire.proofs.laws.number_function.Goals as goal

pub returns-clause-spelled : goal.returns-clause-spelled
returns-clause-spelled c = number_function_spelled

pub returns-clause-number : goal.returns-clause-number
returns-clause-number c = number_function_number

pub returns-clause-none : goal.returns-clause-none
returns-clause-none c = number_function_none

pub returns-clause-cause : goal.returns-clause-cause
returns-clause-cause c = number_function_cause
