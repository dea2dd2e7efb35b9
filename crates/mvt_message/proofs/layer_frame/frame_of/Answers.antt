use Rattle.std.proofs.Common.{arith, refl}
use Rattle.mvt_message.proofs.AroundLemmas.{around_is}
use Rattle.mvt_message.proofs.layer_frame.frame_of.Goals as goal

pub returns : goal.returns
returns c = record {
  around =
      around_is c.args.body.now c.in-Some.name.now c.in-Some.extent c.args.features_at c.in_ok-front.front.end_at
      c.around_from-end.result.1 _ c.args.head.now c.around_from-end.result.0 refl
      c.requires.head (rw c.end_of.ensures at c.around_from-end.ensures.fields)
      (omega (arith, c.if-end-body.false)) c.in-Some.ensures.fields c.in-Some.ensures.valid;
  is_front = c.in_ok-front.ensures.front;
  behind = c.in_ok-front.ensures.behind;
}
