use Rattle.mvt_wire.proofs.WireLaws.{split_steps_field, split_steps_none, split_steps_place, split_steps_rest}
use Rattle.mvt_wire.proofs.laws.split_steps.Goals as goal

pub returns-clause-field : goal.returns-clause-field
returns-clause-field c = split_steps_field

pub returns-clause-none : goal.returns-clause-none
returns-clause-none c = split_steps_none

pub returns-clause-place : goal.returns-clause-place
returns-clause-place c = split_steps_place

pub returns-clause-rest : goal.returns-clause-rest
returns-clause-rest c = split_steps_rest
