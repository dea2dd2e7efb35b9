use Rattle.mvt_tasks.proofs.RemedyLemmas.{mended_told}
use Rattle.mvt_tasks.proofs.explaining.if_mended.Goals as goal

pub returns-clause-line : goal.returns-clause-line
returns-clause-line c = mended_told c.args.input.now c.in-Ok.field-0.bytes c.in-Ok.ensures.tile
