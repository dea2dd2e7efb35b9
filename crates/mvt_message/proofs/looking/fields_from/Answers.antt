use Rattle.std.proofs.Common.{arith}
use Rattle.mvt_message.proofs.CopyingLemmas.{fields_from_more}
use Rattle.mvt_message.proofs.looking.fields_from.Goals as goal

pub loop-count-preserved : goal.loop-count-preserved
loop-count-preserved c = (
  c.in-Some.ensures.within.1,
  omega arith,
  fields_from_more c.args.body.now c.args.start c.args.number c.loop-count.count c.loop-count.at c.in-Some.after c.in-Some.field-0-0
      c.loop-count.invariant.2 c.in-Some.ensures.field c.in-Some.ensures.within.1,
)
