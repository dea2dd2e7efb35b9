use Rattle.mvt_wire.proofs.WireLaws.{one_cause_there, one_cause_only, one_cause_stays, one_cause_end}
use Rattle.mvt_wire.proofs.laws.one_cause.Goals as goal

pub returns-clause-there : goal.returns-clause-there
returns-clause-there c = one_cause_there

pub returns-clause-only : goal.returns-clause-only
returns-clause-only c = one_cause_only

pub returns-clause-stays : goal.returns-clause-stays
returns-clause-stays c = one_cause_stays

pub returns-clause-end : goal.returns-clause-end
returns-clause-end c = one_cause_end
