use Rattle.mvt_wire.proofs.WireLaws.{spelled_whole_whole, spelled_whole_field, spelled_whole_only}
use Rattle.mvt_wire.proofs.laws.spelled_whole.Goals as goal

pub returns-clause-whole : goal.returns-clause-whole
returns-clause-whole c = spelled_whole_whole

pub returns-clause-field : goal.returns-clause-field
returns-clause-field c = spelled_whole_field

pub returns-clause-only : goal.returns-clause-only
returns-clause-only c = spelled_whole_only
