use Rattle.std.proofs.Common.{◌++◌, ap, arith, sym, subst, ◌∙◌, append-nil}
use Rattle.std.proofs.lemmas.Result.{err_from_is_err_and}
use Rattle.mvt_wire.specs.Field.{entry_of}
use Rattle.mvt_wire.specs.Fields.{Ahead}
use Rattle.mvt_tile.proofs.JudgeLemmas.{so_far_start, so_far_step, so_far_place, so_far_count, so_far_fails, so_far_ends, so_far_rest, so_far_broken, so_far_payloads, judged_there}
use Rattle.mvt_tile.specs.Inner.Taking.{HasTaken}
use Rattle.mvt_tile.specs.Visiting.{payloads_in, payloads_of}
use Rattle.mvt_tile.proofs.PayloadLemmas.{payloads_after}
use Rattle.mvt_tile.proofs.walking.walk_fields.Goals as goal

pub loop-field-init : goal.loop-field-init
unfolding so_far_start
loop-field-init g c = λ input payloads items has. (
  items,
  so_far_start c.args.offset c.args.bytes.now items _
      (ap (λ (a : Ahead). a.to_come) c.into_iter-field-iterator.ensures.into_iter_gives ∙ c.new-field-items.ensures.fields),
  subst (λ ps. HasTaken (g.V.TileVisitor.has_items input ps) c.args.taken.now items) (sym (append-nil payloads)) has,
)

pub take_field-requires-clause-few : goal.take_field-requires-clause-few
take_field-requires-clause-few g c =
    let (input, payloads, items, has, few) = c.requires.few in
    let (now, so_far, known) = c.loop-field.invariant input payloads items has in (
      input,
      payloads ++ payloads_of so_far.done,
      now,
      known,
      omega (
        arith,
        few,
        so_far_count c.args.offset c.args.bytes.now items now c.loop-field.field-iterator.to_come so_far,
      ),
    )

pub take_field-requires-clause-place : goal.take_field-requires-clause-place
take_field-requires-clause-place g c =
    let (input, payloads, items, has, few) = c.requires.few in
    let (now, so_far, known) = c.loop-field.invariant input payloads items has in
    let step = (rw c.in-Ok.is at c.in-Some.ensures.steps).0 in
    omega (
      arith,
      (so_far_place c.args.offset c.args.bytes.now items now c.loop-field.field-iterator.to_come so_far c.next.new.self.to_come
          c.in-Ok.field step).0,
    )

pub take_field-requires-clause-fits : goal.take_field-requires-clause-fits
take_field-requires-clause-fits g c =
    let (input, payloads, items, has, few) = c.requires.few in
    let (now, so_far, known) = c.loop-field.invariant input payloads items has in
    let step = (rw c.in-Ok.is at c.in-Some.ensures.steps).0 in
    omega (
      arith,
      (so_far_place c.args.offset c.args.bytes.now items now c.loop-field.field-iterator.to_come so_far c.next.new.self.to_come
          c.in-Ok.field step).1,
    )

pub loop-field-preserved : goal.loop-field-preserved
unfolding so_far_step
loop-field-preserved g c = λ input payloads items has.
    let (now, so_far, known) = c.loop-field.invariant input payloads items has in
    let more = c.in_ok-take_field-in-Ok.ensures.items input (payloads ++ payloads_of so_far.done) now known in
    let step = (rw c.in-Ok.is at c.in-Some.ensures.steps).0 in (
      more.0,
      so_far_step c.args.offset c.args.bytes.now items now _ so_far _ c.in-Ok.field step more.0 more.3 more.2,
      subst (λ ps. HasTaken (g.V.TileVisitor.has_items input ps) c.take_field.new.taken more.0)
          (payloads_after payloads so_far.done (entry_of c.in-Ok.field)) more.1,
    )

pub returns-in_err-take_field-in-Ok-clause-fault : goal.returns-in_err-take_field-in-Ok-clause-fault
returns-in_err-take_field-in-Ok-clause-fault g c = λ input payloads items has.
    let p = err_from_is_err_and c.from_residual.result c.from_residual.ensures.1 in
    let (now, so_far, known) = c.loop-field.invariant input payloads items has in
    let step = (rw c.in-Ok.is at c.in-Some.ensures.steps).0 in
    rw (p.1, p.2)
    (so_far_fails c.args.offset c.args.bytes.now items now c.loop-field.field-iterator.to_come so_far c.next.new.self.to_come c.in-Ok.field
    step _
    (c.in_err-take_field-in-Ok.ensures.fault input (payloads ++ payloads_of so_far.done) now known))

pub returns-in-Err-clause-judged : goal.returns-in-Err-clause-judged
returns-in-Err-clause-judged g c = λ input payloads items has.
    let (now, so_far, known) = c.loop-field.invariant input payloads items has in
    let step = (rw c.in-Err.is at c.in-Some.ensures.steps).0 in
    let same = so_far_payloads c.args.offset c.args.bytes.now items now c.loop-field.field-iterator.to_come so_far step.0 in
    judged_there (HasTaken (g.V.TileVisitor.has_items input (payloads ++ payloads_in c.args.bytes.now)) c.loop-field.taken)
    c.args.offset c.args.bytes.now items now c.judge_rest.result
    (subst (λ ps. HasTaken (g.V.TileVisitor.has_items input (payloads ++ ps)) c.loop-field.taken now) same known)
    (so_far_rest c.args.offset c.args.bytes.now items now c.loop-field.field-iterator.to_come so_far c.next.new.self.to_come c.in-Err.fault
    step _ c.judge_rest.ensures.unfinished)

pub returns-in-Err-clause-fault : goal.returns-in-Err-clause-fault
returns-in-Err-clause-fault g c = λ input payloads items has.
    let (now, so_far, known) = c.loop-field.invariant input payloads items has in
    let step = (rw c.in-Err.is at c.in-Some.ensures.steps).0 in
    so_far_broken c.args.offset c.args.bytes.now items now c.loop-field.field-iterator.to_come so_far c.next.new.self.to_come
    c.in-Err.fault step _ c.judge_rest.ensures.fault

pub returns-clause-judged : goal.returns-clause-judged
returns-clause-judged g c = λ input payloads items has.
    let (now, so_far, known) = c.loop-field.invariant input payloads items has in
    let same = so_far_payloads c.args.offset c.args.bytes.now items now c.loop-field.field-iterator.to_come so_far
    c.in-None.ensures.steps.0.0 in (
      now,
      subst (λ ps. HasTaken (g.V.TileVisitor.has_items input (payloads ++ ps)) c.loop-field.taken now) same known,
      so_far_ends c.args.offset c.args.bytes.now items now c.loop-field.field-iterator.to_come so_far c.next.new.self.to_come
          c.in-None.ensures.steps.0,
    )
