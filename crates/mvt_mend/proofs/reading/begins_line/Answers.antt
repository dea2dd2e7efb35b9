use Rattle.std.proofs.Common.{rules}
use Rattle.mvt_mend.specs.Reading.{begins_line}
use Rattle.mvt_mend.proofs.reading.begins_line.Goals as goal

pub returns-then-integers-lt4-clause-is : goal.returns-then-integers-lt4-clause-is
unfolding begins_line
returns-then-integers-lt4-clause-is c = search rules

pub returns-then-integers-eq-MOVE_TO_ONE-clause-is : goal.returns-then-integers-eq-MOVE_TO_ONE-clause-is
unfolding begins_line
returns-then-integers-eq-MOVE_TO_ONE-clause-is c = search rules

pub returns-else-integers-eq-MOVE_TO_ONE-clause-is : goal.returns-else-integers-eq-MOVE_TO_ONE-clause-is
unfolding begins_line
returns-else-integers-eq-MOVE_TO_ONE-clause-is c = search rules
