use Rattle.mvt_wire.proofs.WireLaws.{front_stays_field, front_stays_cause, front_stays_rest}
use Rattle.mvt_wire.proofs.laws.front_stays.Goals as goal

pub returns-clause-field : goal.returns-clause-field
returns-clause-field c = front_stays_field

pub returns-clause-cause : goal.returns-clause-cause
returns-clause-cause c = front_stays_cause

pub returns-clause-rest : goal.returns-clause-rest
returns-clause-rest c = front_stays_rest
