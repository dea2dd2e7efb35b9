use Rattle.mvt_mend.proofs.SilentLemmas.{silent_stays, stays_silent, layer_silent}
use Rattle.mvt_mend.proofs.whole.nothing_is_untold.Goals as goal

pub returns-clause-stays : goal.returns-clause-stays
returns-clause-stays c = silent_stays

pub returns-clause-silent : goal.returns-clause-silent
returns-clause-silent c = stays_silent

pub returns-clause-layer : goal.returns-clause-layer
returns-clause-layer c = layer_silent
