use Rattle.mvt_wire.proofs.WireLaws.{split_more_fields, split_more_rest, split_more_place}
use Rattle.mvt_wire.proofs.laws.split_more.Goals as goal

pub returns-clause-fields : goal.returns-clause-fields
returns-clause-fields c = split_more_fields

pub returns-clause-rest : goal.returns-clause-rest
returns-clause-rest c = split_more_rest

pub returns-clause-place : goal.returns-clause-place
returns-clause-place c = split_more_place
