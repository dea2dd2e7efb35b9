use Rattle.std.proofs.Common.{◌++◌, ◌∷◌, [], List, OnOk, arith, ap, sym, subst, ◌∙◌, append-nil}
use Rattle.std.proofs.lemmas.Result.{err_from_is_err_and}
use Rattle.mvt_wire.specs.Field.{entry_of}
use Rattle.mvt_tile.proofs.JudgeLemmas.{field_over, field_gives, field_reports}
use Rattle.mvt_message.specs.declared.item.Item.{Item}
use Rattle.mvt_tile.specs.Inner.Judging.{IsOneItemMore}
use Rattle.mvt_tile.specs.Inner.Taking.{HasTaken}
use Rattle.mvt_tile.specs.Visiting.{payloads_of}
use Rattle.mvt_tile.proofs.PayloadLemmas.{payloads_one, payloads_other}
use Rattle.mvt_tile.proofs.walking.take_field.Goals as goal

pub returns-in_err-layer_in-clause-fault : goal.returns-in_err-layer_in-clause-fault
returns-in_err-layer_in-clause-fault g c = λ input payloads items has.
    let p = err_from_is_err_and c.from_residual.result c.from_residual.ensures.1 in
    rw (p.1, p.2) (λ front are. c.in_err-layer_in.ensures.fault front)

pub returns-in-None-clause-items : goal.returns-in-None-clause-items
returns-in-None-clause-items g c = λ input payloads items has. (
  items,
  subst (λ ps. HasTaken (g.V.TileVisitor.has_items input ps) c.args.taken.now items)
      (sym (ap (λ ps. payloads ++ ps)
      (payloads_other (entry_of c.args.field.now) (rw c.in-None.is at c.in_ok-layer_in.ensures.place)) ∙ append-nil payloads)) has,
  omega arith,
  field_over items c.args.offset (entry_of c.args.field.now)
      (rw c.in-None.is at c.in_ok-layer_in.ensures.place),
)

pub returns-in-Some-clause-items : goal.returns-in-Some-clause-items
returns-in-Some-clause-items g c = λ input payloads items has.
    let place = rw c.in-Some.is at c.in_ok-layer_in.ensures.place in
    let x = entry_of c.args.field.now in
    let d = c.in-Some.place.payload.now in
    let same = sym (ap (λ ps. payloads ++ ps) (payloads_one x d place.is_layer place.holds)) in
    field_gives items c.args.offset x _ _ _ place
    (HasTaken (g.V.TileVisitor.has_items input (payloads ++ payloads_of (x ∷ []))) c.take_item.new.self) _
    (subst (λ ps. OnOk c.take_item.result ((new : List Item)
    × HasTaken (g.V.TileVisitor.has_items input ps) c.take_item.new.self new × IsOneItemMore items new d)) same
    (c.take_item.ensures.item input payloads items has))

pub returns-in-Some-clause-fault : goal.returns-in-Some-clause-fault
returns-in-Some-clause-fault g c = λ input payloads items has.
    let place = rw c.in-Some.is at c.in_ok-layer_in.ensures.place in
    let given = c.in-Some.place in
    field_reports items c.args.offset (entry_of c.args.field.now) given.payload.now given.payload_at given.tag_at place _
    (c.take_item.ensures.fault input payloads items has)
