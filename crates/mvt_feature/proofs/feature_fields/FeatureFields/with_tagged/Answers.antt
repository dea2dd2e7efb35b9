use Rattle.std.proofs.Common.{◌≡◌, [], ◌∷◌, ◌++◌, Ok, Err, ap}
use Rattle.mvt_base.proofs.RuleLemmas.{option_or-some}
use Rattle.mvt_wire.specs.Field.{entry_of}
use Rattle.mvt_feature.proofs.FeatureFieldsLemmas.{known_with}
use Rattle.mvt_feature.specs.declared.message_error.MessageError.TheVariants.{Memory}
use Rattle.mvt_feature.proofs.ListingLemmas.{listed_next}
use Rattle.mvt_feature.proofs.WalkLemmas.{walk_step, walk_fault}
use Rattle.mvt_feature.proofs.feature_fields.FeatureFields.with_tagged.Goals as goal

pub returns-in-Ok-clause-known : goal.returns-in-Ok-clause-known
returns-in-Ok-clause-known c =
    let done = c.requires.walk.0 in
    let step = c.in-Ok.ensures in (
      done ++ entry_of c.in-Some-Ok.field ∷ [],
      walk_step _ _ _ _ _ c.requires.walk.1 (rw c.in-Some-Ok.field-0-is at c.in-Some-Ok.ensures.some).0,
      known_with c.args.payload_at done (entry_of c.in-Some-Ok.field) c.args.self _ _ _ _ (Ok c.in-Ok.more)
          c.requires.walk.2 step.ok step.id step.kind step.tags step.integers tt,
    )

pub returns-in-Err-clause-err : goal.returns-in-Err-clause-err
returns-in-Err-clause-err c =
    let done = c.requires.walk.0 in
    let step = (rw c.in-Some-Ok.field-0-is at c.in-Some-Ok.ensures.some).0 in
    let all = (walk_step c.args.payload.now _ c.next_tagged.new.self.to_come done c.in-Some-Ok.field c.requires.walk.1 step).fields in
    let stays =
    known_with c.args.payload_at done (entry_of c.in-Some-Ok.field) c.args.self _ _ [] [] (Err c.in-Err.error)
    c.requires.walk.2 tt tt tt tt tt c.in-Err.ensures.err in
    c.rest_fault_before.ensures.reported _ (rw all (stays c.next_tagged.new.self.to_come.fields))

pub returns-in-Some-Err-clause-err : goal.returns-in-Some-Err-clause-err
returns-in-Some-Err-clause-err c =
    rw c.rest_fault.ensures
    (option_or-some _ _ _
    (walk_fault _ _ c.next_tagged.new.self.to_come _ _ _ c.requires.walk.1 (rw c.in-Some-Err.field-0-is at c.in-Some-Err.ensures.some).0))

pub returns-in-Err-clause-memory : goal.returns-in-Err-clause-memory
returns-in-Err-clause-memory c = λ h.
    let step = (rw c.in-Some-Ok.field-0-is at c.in-Some-Ok.ensures.some).0 in
    let is : c.rest_fault_before.result ≡ Memory = cc in
    listed_next c.args.payload.now _ c.next_tagged.new.self.to_come c.requires.walk.0 c.in-Some-Ok.field c.args.payload_at
    c.requires.walk.1 step c.requires.walk.2.0 (c.rest_fault_before.ensures.whole is)
    (c.in-Err.ensures.memory (ap Err (c.rest_fault_before.ensures.memory is)))

pub returns-in-Some-Err-clause-memory : goal.returns-in-Some-Err-clause-memory
returns-in-Some-Err-clause-memory c = λ h. let is = c.rest_fault.ensures in absurd cc
