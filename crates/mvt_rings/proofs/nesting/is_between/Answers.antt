use Rattle.std.proofs.Common.{rules}
use Rattle.mvt_rings.specs.Nesting.{is_between}
use Rattle.mvt_rings.proofs.nesting.is_between.Goals as goal

pub returns-then-a-b : goal.returns-then-a-b
unfolding is_between
returns-then-a-b c = search rules

pub returns-else-a-b : goal.returns-else-a-b
unfolding is_between
returns-else-a-b c = search rules
