use Rattle.mvt_wire.proofs.StepLemmas.{nil_span}
use Rattle.mvt_wire.proofs.span.field_span.Goals as goal

pub returns-in-Ok-None : goal.returns-in-Ok-None
returns-in-Ok-None c = nil_span c.args.bytes.now (rw c.in-Ok-None.field-0-is at c.in-Ok-None.ensures.next)
