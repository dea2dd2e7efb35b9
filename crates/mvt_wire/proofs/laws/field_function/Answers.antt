use Rattle.mvt_wire.proofs.WireLaws.{field_function_spelled, field_function_field, field_function_none, field_function_cause, field_function_end}
use Rattle.mvt_wire.proofs.laws.field_function.Goals as goal

pub returns-clause-spelled : goal.returns-clause-spelled
returns-clause-spelled c = field_function_spelled

pub returns-clause-field : goal.returns-clause-field
returns-clause-field c = field_function_field

pub returns-clause-none : goal.returns-clause-none
returns-clause-none c = field_function_none

pub returns-clause-cause : goal.returns-clause-cause
returns-clause-cause c = field_function_cause

pub returns-clause-end : goal.returns-clause-end
returns-clause-end c = field_function_end
