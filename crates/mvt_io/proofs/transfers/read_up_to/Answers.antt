use Rattle.std.proofs.Common.{arith}
use Rattle.std.proofs.lemmas.Grind.{common_steps}
use Rattle.mvt_io.proofs.Fronts.{Consumes-none, Reads-once, Reads-then, TakesAtMost-more, TakesAtMost-then}
use Rattle.mvt_io.proofs.transfers.read_up_to.Goals as goal

pub returns-in_err-extend_from_slice-clause-leaves : goal.returns-in_err-extend_from_slice-clause-leaves
returns-in_err-extend_from_slice-clause-leaves g c =
    TakesAtMost-more _ _ _ _ _ _ _ c.loop-missing.invariant.consumed c.in-Ok.ensures.bytes.0 (grind (arith, common_steps))

pub returns-in-Err-clause-reads : goal.returns-in-Err-clause-reads
returns-in-Err-clause-reads g c =
    Reads-once _ _ (g.R.Source.state c.loop-missing.reader) _ _ _ c.loop-missing.invariant.consumed
    (Consumes-none _ _ c.in-Err.ensures.bytes) (omega arith)
    c.loop-missing.invariant.reads (grind (arith, common_steps)) (grind (arith, common_steps)) c.loop-missing.invariant.empty
    (grind (arith, common_steps))

pub returns-in_err-extend_from_slice-clause-reads : goal.returns-in_err-extend_from_slice-clause-reads
returns-in_err-extend_from_slice-clause-reads g c =
    Reads-once _ _ (g.R.Source.state c.loop-missing.reader) _ _ _ c.loop-missing.invariant.consumed c.in-Ok.ensures.bytes.0 (omega arith)
    c.loop-missing.invariant.reads (grind (arith, common_steps)) (grind (arith, common_steps)) c.loop-missing.invariant.empty
    (grind (arith, common_steps))

pub returns-then-len-ge-PIECE-clause-leaves : goal.returns-then-len-ge-PIECE-clause-leaves
returns-then-len-ge-PIECE-clause-leaves g c =
    TakesAtMost-then _ c.loop-missing.missing _ _ _ _ c.loop-missing.invariant.consumed c.loop-missing.invariant.missing
    c.read_rest.ensures.leaves

pub returns-then-len-ge-PIECE-clause-reads : goal.returns-then-len-ge-PIECE-clause-reads
returns-then-len-ge-PIECE-clause-reads g c =
    Reads-then _ c.loop-missing.missing _ (g.R.Source.state c.loop-missing.reader) _ _ c.loop-missing.invariant.consumed
    c.loop-missing.invariant.missing c.loop-missing.invariant.reads c.loop-missing.invariant.asked
    c.loop-missing.invariant.empty c.read_rest.ensures.reads
