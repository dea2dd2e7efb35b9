use Rattle.std.proofs.Common.{arith}
use Rattle.mvt_attrs.specs.FirstUses.{lent}
use Rattle.mvt_attrs.specs.Inner.Marking.{place_in_map}
use Rattle.mvt_attrs.proofs.MarkingLemmas.{found_more, grouped, length-lent, lent_at}
use Rattle.mvt_attrs.proofs.layer_keys.group_many.Goals as goal

pub loop-index-preserved : goal.loop-index-preserved
loop-index-preserved c =
    let i = c.loop-index.index in
    found_more (lent c.args.texts.now) i c.loop-index.first_indices.items (place_in_map c.loop-index.known)
    (place_in_map c.place_of.new.known) _ c.in_ok-place.place
    c.loop-index.invariant (lent_at c.args.texts.now i _ c.loop-index-test.true) c.in_ok-place.ensures.place
    c.in_ok-place.ensures.known c.push.new.self.items c.in_ok-push.ensures.items

pub returns : goal.returns
returns c =
    grouped (lent c.args.texts.now) c.loop-index.index c.loop-index.first_indices.items (place_in_map c.loop-index.known)
    (omega (arith, length-lent c.args.texts.now)) c.loop-index.invariant
