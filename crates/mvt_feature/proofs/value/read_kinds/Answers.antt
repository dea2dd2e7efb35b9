use Rattle.std.proofs.Common.{[], ◌∷◌, ◌++◌, ◌∙◌, refl, ap}
use Rattle.mvt_wire.specs.Fields.{Ahead}
use Rattle.mvt_base.proofs.RuleLemmas.{option_or-some}
use Rattle.mvt_wire.specs.Field.{entry_of}
use Rattle.mvt_feature.proofs.KindLemmas.{so_far_skip, so_far_with, so_far_stops}
use Rattle.mvt_feature.proofs.WalkLemmas.{walk_start, walk_step, walk_fault}
use Rattle.mvt_feature.proofs.value.read_kinds.Goals as goal

pub loop-field-init : goal.loop-field-init
loop-field-init c = (
  [],
  walk_start _ _
      (ap (λ (a : Ahead). a.to_come) c.into_iter-field-iterator.ensures.into_iter_gives ∙ c.new-field-items.ensures.fields)
      (rw c.into_iter-field-iterator.ensures.into_iter_gives c.new-field-items.ensures.place),
  (refl, refl),
)

pub loop-field-preserved-in-Ok-None : goal.loop-field-preserved-in-Ok-None
loop-field-preserved-in-Ok-None c =
    let done = c.loop-field.invariant.0 in (
      done ++ entry_of c.in-Ok.field ∷ [],
      walk_step _ _ _ _ _ c.loop-field.invariant.1 (rw c.in-Ok.is at c.in-Some.ensures.steps).0,
      so_far_skip c.args.payload_at done c.loop-field.kinds (entry_of c.in-Ok.field) c.loop-field.invariant.2
          c.in-Ok-None.ensures.ok (rw c.in-Ok-None.field-0-is at c.in-Ok-None.ensures.means),
    )

pub loop-field-preserved : goal.loop-field-preserved
loop-field-preserved c =
    let done = c.loop-field.invariant.0 in
    let means = rw c.in-Ok-Some.field-0-is at c.in-Ok-Some.ensures.means in (
      done ++ entry_of c.in-Ok.field ∷ [],
      walk_step _ _ _ _ _ c.loop-field.invariant.1 (rw c.in-Ok.is at c.in-Some.ensures.steps).0,
      rw c.with-kinds.ensures
          (so_far_with c.args.payload_at done c.loop-field.kinds (entry_of c.in-Ok.field) c.in-Ok-Some.meaning
          c.loop-field.invariant.2 c.in-Ok-Some.ensures.ok means.0 means.1),
    )

pub returns-in-Err-meaning_of-clause-err : goal.returns-in-Err-meaning_of-clause-err
returns-in-Err-meaning_of-clause-err c =
    let done = c.loop-field.invariant.0 in
    let step = (rw c.in-Ok.is at c.in-Some.ensures.steps).0 in
    let all = (walk_step c.args.payload.now _ c.next.new.self.to_come done c.in-Ok.field c.loop-field.invariant.1 step).fields in
    c.rest_fault_before.ensures.reported _
    (rw (c.fault_at-error.ensures, all)
    (so_far_stops c.args.payload_at done c.loop-field.kinds (entry_of c.in-Ok.field) c.in-Err-meaning_of.cause
    c.loop-field.invariant.2 c.in-Err-meaning_of.ensures.err c.next.new.self.to_come.fields))

pub returns-in-Err-clause-err : goal.returns-in-Err-clause-err
returns-in-Err-clause-err c =
    rw c.rest_fault.ensures
    (option_or-some _ _ _
    (walk_fault _ _ c.next.new.self.to_come _ _ _ c.loop-field.invariant.1 (rw c.in-Err.is at c.in-Some.ensures.steps).0))
