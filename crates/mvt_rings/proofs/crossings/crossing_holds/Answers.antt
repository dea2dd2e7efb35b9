use Rattle.mvt_rings.proofs.CrossingLemmas.{crossing_holds, told_uncrossed}
use Rattle.mvt_rings.proofs.crossings.crossing_holds.Goals as goal

pub returns-clause-holds : goal.returns-clause-holds
returns-clause-holds c = crossing_holds

pub returns-clause-only : goal.returns-clause-only
returns-clause-only c = told_uncrossed
