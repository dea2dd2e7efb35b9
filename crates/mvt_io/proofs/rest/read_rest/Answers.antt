use Rattle.std.proofs.Common.{arith}
use Rattle.std.proofs.lemmas.Grind.{common_steps}
use Rattle.mvt_io.proofs.Fronts.{Reads-once, TakesAtMost-more}
use Rattle.mvt_io.proofs.rest.read_rest.Goals as goal

pub returns-in_err-extend_from_slice-clause-leaves : goal.returns-in_err-extend_from_slice-clause-leaves
returns-in_err-extend_from_slice-clause-leaves g c =
    TakesAtMost-more _ _ _ _ _ _ _ c.loop-missing.invariant.consumed c.in-Ok.ensures.bytes.0 (grind (arith, common_steps))

pub returns-in_err-extend_from_slice-clause-reads : goal.returns-in_err-extend_from_slice-clause-reads
returns-in_err-extend_from_slice-clause-reads g c =
    Reads-once _ _ (g.R.Source.state c.loop-missing.reader) _ _ _ c.loop-missing.invariant.consumed c.in-Ok.ensures.bytes.0 (omega arith)
    c.loop-missing.invariant.reads (grind (arith, common_steps)) (grind (arith, common_steps)) c.loop-missing.invariant.empty
    (grind (arith, common_steps))
