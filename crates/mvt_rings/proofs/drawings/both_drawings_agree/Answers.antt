use Rattle.mvt_rings.proofs.DrawingLemmas.{drawings_agree}
use Rattle.mvt_rings.proofs.drawings.both_drawings_agree.Goals as goal

pub returns : goal.returns
returns c = drawings_agree
