use Rattle.std.proofs.Common.{◌≡◌, [], ◌∷◌, ◌++◌, Ok, Err, ap}
use Rattle.mvt_base.proofs.RuleLemmas.{option_or-some}
use Rattle.mvt_wire.specs.Field.{entry_of}
use Rattle.mvt_feature.proofs.FeatureFieldsLemmas.{known_with}
use Rattle.mvt_feature.specs.declared.message_error.MessageError.TheVariants.{Memory}
use Rattle.mvt_feature.proofs.ListingLemmas.{listed_next}
use Rattle.mvt_feature.proofs.WalkLemmas.{walk_step, walk_fault}
use Rattle.mvt_feature.proofs.feature_fields.read_fields.Goals as goal

pub loop-field-init : goal.loop-field-init
loop-field-init c =
    let known = c.in_ok-known.ensures.known in
    (known.0, rw c.into_iter-field-iterator.ensures.into_iter_gives known.1, known.2)

pub loop-field-preserved : goal.loop-field-preserved
loop-field-preserved c =
    let done = c.loop-field.invariant.0 in
    let step = c.in-Ok-with.ensures in (
      done ++ entry_of c.in-Ok.field ∷ [],
      walk_step _ _ _ _ _ c.loop-field.invariant.1 (rw c.in-Ok.is at c.in-Some.ensures.steps).0,
      known_with c.args.payload_at done (entry_of c.in-Ok.field) c.loop-field.known _ _ _ _ (Ok c.in-Ok-with.more)
          c.loop-field.invariant.2 step.ok step.id step.kind step.tags step.integers tt,
    )

pub returns-in-Err-with-clause-err : goal.returns-in-Err-with-clause-err
returns-in-Err-with-clause-err c =
    let done = c.loop-field.invariant.0 in
    let step = (rw c.in-Ok.is at c.in-Some.ensures.steps).0 in
    let all = (walk_step c.args.payload.now _ c.next.new.self.to_come done c.in-Ok.field c.loop-field.invariant.1 step).fields in
    let stays =
    known_with c.args.payload_at done (entry_of c.in-Ok.field) c.loop-field.known _ _ [] [] (Err c.in-Err-with.error)
    c.loop-field.invariant.2 tt tt tt tt tt c.in-Err-with.ensures.err in
    c.rest_fault_before.ensures.reported _ (rw all (stays c.next.new.self.to_come.fields))

pub returns-in-Err-clause-err : goal.returns-in-Err-clause-err
returns-in-Err-clause-err c =
    rw c.rest_fault.ensures
    (option_or-some _ _ _
    (walk_fault _ _ c.next.new.self.to_come _ _ _ c.loop-field.invariant.1 (rw c.in-Err.is at c.in-Some.ensures.steps).0))

pub returns-in-Err-with-clause-memory : goal.returns-in-Err-with-clause-memory
returns-in-Err-with-clause-memory c = λ h.
    let done = c.loop-field.invariant.0 in
    let step = (rw c.in-Ok.is at c.in-Some.ensures.steps).0 in
    let is : c.rest_fault_before.result ≡ Memory = cc in
    listed_next c.args.payload.now _ c.next.new.self.to_come done c.in-Ok.field c.args.payload_at c.loop-field.invariant.1 step
    c.loop-field.invariant.2.0 (c.rest_fault_before.ensures.whole is)
    (c.in-Err-with.ensures.memory (ap Err (c.rest_fault_before.ensures.memory is)))

pub returns-in-Err-clause-memory : goal.returns-in-Err-clause-memory
returns-in-Err-clause-memory c = λ h. let is = c.rest_fault.ensures in absurd cc
