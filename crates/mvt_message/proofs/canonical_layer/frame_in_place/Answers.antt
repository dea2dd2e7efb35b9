use Rattle.mvt_message.proofs.AroundLemmas.{around_in_place}
use Rattle.mvt_message.proofs.canonical_layer.frame_in_place.Goals as goal

pub returns-clause-frame : goal.returns-clause-frame
returns-clause-frame c = record {
  around =
      around_in_place c.args.payload.now c.in-Some.name.now c.in-Some-extent_at_end.extent c.in-Some.features_at c.in_ok-front.front.end_at
      c.in-Some.ensures.fields (rw c.end_of.ensures at c.in-Some-extent_at_end.ensures.field) c.in-Some.ensures.text c.in-Some.ensures.short
      c.in-Some-extent_at_end.ensures.small;
  is_front = c.in_ok-front.ensures.front;
  behind = c.in_ok-front.ensures.behind;
}
