use Rattle.std.proofs.Common.{◌+◌, map, subst, ◌∙◌, arith}
use Rattle.std.proofs.lemmas.List.{length-map, length-set}
use Rattle.mvt_attrs.specs.Inner.Apart.{IsFreeFor, text_slot}
use Rattle.mvt_attrs.proofs.ResolvedLemmas.{there}
use Rattle.mvt_attrs.proofs.ApartLemmas.{apart_more, apart_distinct, slot_apart, marks_more, noted_more}
use Rattle.mvt_attrs.proofs.distinct.are_many_distinct.Goals as goal

pub index_mut-requires : goal.index_mut-requires
index_mut-requires g c =
    let entries = map g.T.AsSlice.items c.args.entries.now in
    let (entry, at) =
    there entries c.loop-index.index (omega (arith, length-map c.args.entries.now g.T.AsSlice.items, c.loop-index-test.true)) in
    let within = (c.in-Some.ensures entry at).within in
    omega (arith, within, c.deref.ensures.len)

pub loop-index-preserved : goal.loop-index-preserved
loop-index-preserved g c =
    let entries = map g.T.AsSlice.items c.args.entries.now in
    let slots = c.loop-index.slots.items in
    let index = c.loop-index.index in
    let room = c.next_power_of_two-room.result in
    let (entry, at) = there entries index (omega (arith, length-map c.args.entries.now g.T.AsSlice.items, c.loop-index-test.true)) in
    let free : IsFreeFor entries slots index (text_slot room entry) c.in-Some.slot =
    subst (λ s. IsFreeFor entries s index (text_slot room entry) c.in-Some.slot) c.deref.ensures.value (c.in-Some.ensures entry at) in
    let (apart, marks, noted, size) = c.loop-index.invariant in (
      apart_more entries index apart (slot_apart entries slots room index c.in-Some.slot entry at noted marks free),
      marks_more entries slots room index c.in-Some.slot entry at noted marks free,
      noted_more entries slots room index c.in-Some.slot entry at noted marks free,
      length-set slots c.in-Some.slot (index + 1) ∙ size,
    )

pub returns : goal.returns
returns g c = λ _.
    let entries = c.args.entries.now in
    apart_distinct (map g.T.AsSlice.items entries) c.loop-index.index
    (omega (arith, length-map entries g.T.AsSlice.items, c.loop-index-test.false)) c.loop-index.invariant.0
