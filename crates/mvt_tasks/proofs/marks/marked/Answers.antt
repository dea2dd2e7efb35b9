use Rattle.mvt_tasks.proofs.MarkLemmas.{marked_more}
use Rattle.mvt_tasks.proofs.marks.marked.Goals as goal

pub loop-byte-preserved : goal.loop-byte-preserved
loop-byte-preserved c =
    marked_more c.args.mark.now c.args.text.now c.loop-byte.byte-index _ _ _ c.loop-byte.is_start
    c.loop-byte-test.true c.loop-byte.invariant c.in_ok-push_if.ensures c.in_ok-push.ensures.items
