use Rattle.mvt_message.proofs.AroundLemmas.{around_none, around_more}
use Rattle.mvt_message.proofs.around.around_from.Goals as goal

pub loop-more-init : goal.loop-more-init
loop-more-init c = (c.requires, around_none c.args.body.now c.args.start c.args.before.now)

pub loop-more-preserved : goal.loop-more-preserved
loop-more-preserved c = (
  c.in-Some.ensures.within.1,
  around_more c.args.body.now c.args.start c.loop-more.at c.in-Some.after c.args.before.now c.loop-more.around c.in-Some.more
      c.loop-more.invariant.1 c.in-Some.ensures.field,
)
