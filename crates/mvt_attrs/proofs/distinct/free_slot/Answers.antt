use Rattle.std.proofs.Common.{◌≡◌, ◌-◌, map, slice_index, ap, subst, ◌∙◌, sym, arith}
use Rattle.mvt_attrs.specs.Inner.Apart.{IsFreeFor, text_slot}
use Rattle.mvt_attrs.proofs.ApartLemmas.{taken_more, others_more, read_apart, text_at}
use Rattle.mvt_attrs.proofs.distinct.free_slot.Goals as goal

pub returns-then-mark-eq0 : goal.returns-then-mark-eq0
returns-then-mark-eq0 g c = λ entry at.
    let entries = c.args.entries.now in
    let first : c.first_slot-first.result ≡ text_slot c.args.room entry =
    c.first_slot-first.ensures.value
    ∙ ap (text_slot c.args.room) (sym (text_at g.T.AsSlice.items entries c.args.index _ entry c.index-entries-index.is at)) in
    subst (λ k. IsFreeFor (map g.T.AsSlice.items entries) c.args.slots.now c.args.index k c.loop-slot.slot) first (record {
      within = omega (arith, c.loop-slot-test.true, c.loop-slot.auto.slot-end, c.first_slot-first.ensures.within, c.requires.room);
      free = c.if-mark-eq0.true;
      behind = c.loop-slot.auto.slot;
      taken = c.loop-slot.invariant.0;
      others = c.loop-slot.invariant.1;
    })

pub loop-slot-preserved : goal.loop-slot-preserved
loop-slot-preserved g c =
    let entries = c.args.entries.now in
    let texts = map g.T.AsSlice.items entries in
    let slots = c.args.slots.now in (
      taken_more slots c.first_slot-first.result c.loop-slot.slot c.loop-slot.invariant.0 c.if-mark-eq0.false,
      others_more texts slots c.args.index c.first_slot-first.result c.loop-slot.slot c.loop-slot.invariant.1
          (read_apart g.T.AsSlice.items entries (slice_index slots c.loop-slot.slot - 1) c.args.index _ _
          c.index-entries-mark.is c.index-entries-index.is (c.is_text.ensures c.if-is_text.false)),
    )
