use Rattle.std.proofs.Common.{length, Some, None, Ok, Err, refl, subst}
use Rattle.mvt_wire.specs.Field.{entry_of}
use Rattle.mvt_wire.specs.Fields.{Ahead, GivesField}
use Rattle.mvt_wire.proofs.StepLemmas.{ahead, to_come, gives_none, gives_field, gives_fault, less_after_field, less_after_fault}
use Rattle.mvt_wire.proofs.fields.FieldsIterator.next.Goals as goal

pub returns-in-Ok-None-clause-steps : goal.returns-in-Ok-None-clause-steps
returns-in-Ok-None-clause-steps c =
    let s = c.self.inside in
    subst (λ (old : Ahead). GivesField old None old) c.self.view_is
    (gives_none s.source.now s.at (rw c.in-Ok-None.field-0-is at c.in-Ok-None.ensures.next), refl, tt)

pub returns-in-Ok-Some-clause-steps : goal.returns-in-Ok-Some-clause-steps
returns-in-Ok-Some-clause-steps c =
    let s = c.self.inside in
    subst (λ (old : Ahead). GivesField old (Some (Ok c.in-Ok-Some.field)) (ahead s.source c.in-Ok-Some.after)) c.self.view_is (
      gives_field s.source.now s.at c.in-Ok-Some.after c.in-Ok-Some.field
          (rw c.in-Ok-Some.field-0-is at c.in-Ok-Some.ensures.next),
      refl,
      rw c.in-Ok-Some.field-0-is at c.in-Ok-Some.ensures.lies,
    )

pub returns-in-Ok-Some-clause-goes : goal.returns-in-Ok-Some-clause-goes
returns-in-Ok-Some-clause-goes c =
    let s = c.self.inside in
    let gives : GivesField c.args.self.now (Some (Ok c.in-Ok-Some.field)) (ahead s.source c.in-Ok-Some.after) =
    returns-in-Ok-Some-clause-steps c in
    record { on = λ _. (tt, tt, less_after_field _ _ (entry_of c.in-Ok-Some.field) gives.0.0); keeps = tt; rests = λ _. tt }

pub returns-in-Err-clause-steps : goal.returns-in-Err-clause-steps
returns-in-Err-clause-steps c =
    let s = c.self.inside in
    subst (λ (old : Ahead). GivesField old (Some (Err c.in-Err.fault)) (ahead s.source (length s.source.now))) c.self.view_is
    (gives_fault s.source.now s.at c.in-Err.fault c.in-Err.ensures.next, refl, tt)

pub returns-in-Err-clause-goes : goal.returns-in-Err-clause-goes
returns-in-Err-clause-goes c =
    let s = c.self.inside in
    let gives : GivesField c.args.self.now (Some (Err c.in-Err.fault)) (ahead s.source (length s.source.now)) =
    returns-in-Err-clause-steps c in
    record {
      on =
          λ _. (tt, tt, less_after_fault c.args.self.now.to_come (to_come s.source.now (length s.source.now)) c.in-Err.fault gives.0);
      keeps = tt;
      rests = λ _. tt;
    }
