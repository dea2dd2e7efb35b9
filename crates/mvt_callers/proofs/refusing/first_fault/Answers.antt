use Rattle.mvt_callers.proofs.RefusingLemmas.{no_fault}
use Rattle.mvt_callers.proofs.refusing.first_fault.Goals as goal

pub returns-in-Ok-clause-fault : goal.returns-in-Ok-clause-fault
returns-in-Ok-clause-fault g c = no_fault _ c.in-Ok.tile c.in-Ok.ensures.tile
