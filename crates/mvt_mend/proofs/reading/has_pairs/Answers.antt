use Rattle.std.proofs.Common.{rules}
use Rattle.mvt_mend.specs.Reading.{has_pairs}
use Rattle.mvt_mend.proofs.reading.has_pairs.Goals as goal

pub returns-then-count-least-clause-is : goal.returns-then-count-least-clause-is
unfolding has_pairs
returns-then-count-least-clause-is c = search rules

pub returns-else-count-least-clause-is : goal.returns-else-count-least-clause-is
unfolding has_pairs
returns-else-count-least-clause-is c = search rules
