use Rattle.mvt_message.proofs.CopyingLemmas.{unused_step, rest_of}
use Rattle.mvt_message.proofs.layer_copying.end_of_used.Goals as goal

pub overflow_sub-at : goal.overflow_sub-at
overflow_sub-at g c =
    (unused_step g.T.AsSlice.items c.args.number c.args.used c.args.payloads.now c.loop-payload.payload-index c.loop-payload.at c.args.end
    c.field_len.result _ _
    (rest_of c.args.used c.args.payloads.now) c.loop-payload-test.true c.payload-item.is
    (rw c.as_slice.ensures at c.field_len.ensures) c.requires.room c.loop-payload.invariant).0

pub loop-payload-preserved : goal.loop-payload-preserved
loop-payload-preserved g c =
    (unused_step g.T.AsSlice.items c.args.number c.args.used c.args.payloads.now c.loop-payload.payload-index c.loop-payload.at c.args.end
    c.field_len.result _ _
    (rest_of c.args.used c.args.payloads.now) c.loop-payload-test.true c.payload-item.is
    (rw c.as_slice.ensures at c.field_len.ensures) c.requires.room c.loop-payload.invariant).1
