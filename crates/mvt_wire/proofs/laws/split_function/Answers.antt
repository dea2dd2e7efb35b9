use Rattle.mvt_wire.proofs.WireLaws.{split_function_is, split_function_only, split_function_place, split_function_cause, split_function_count, split_function_rest, split_function_whole}
use Rattle.mvt_wire.proofs.laws.split_function.Goals as goal

pub returns-clause-is : goal.returns-clause-is
returns-clause-is c = split_function_is

pub returns-clause-only : goal.returns-clause-only
returns-clause-only c = split_function_only

pub returns-clause-place : goal.returns-clause-place
returns-clause-place c = split_function_place

pub returns-clause-cause : goal.returns-clause-cause
returns-clause-cause c = split_function_cause

pub returns-clause-count : goal.returns-clause-count
returns-clause-count c = split_function_count

pub returns-clause-rest : goal.returns-clause-rest
returns-clause-rest c = split_function_rest

pub returns-clause-whole : goal.returns-clause-whole
returns-clause-whole c = split_function_whole
