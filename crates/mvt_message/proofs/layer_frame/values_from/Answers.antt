use Rattle.mvt_message.proofs.CopyingLemmas.{values_from_more}
use Rattle.mvt_message.proofs.layer_frame.values_from.Goals as goal

pub loop-value-preserved : goal.loop-value-preserved
loop-value-preserved c =
    values_from_more c.args.body.now c.args.start c.loop-value.at c.in-Some.after c.loop-value.values.items c.push.new.self.items
    c.in-Some.value
    c.loop-value.invariant c.in-Some.ensures.field c.in-Some.ensures.value c.in-Some.ensures.within.1 c.in_ok-push.ensures.items
