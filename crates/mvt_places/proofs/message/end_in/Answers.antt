use Rattle.mvt_wire.specs.Field.{entry_of}
use Rattle.mvt_places.proofs.MessageLemmas.{end_of_field, end_of_payload, end_without_field}
use Rattle.mvt_places.proofs.message.end_in.Goals as goal

pub returns-in-Ok-Some-clause-end : goal.returns-in-Ok-Some-clause-end
returns-in-Ok-Some-clause-end c =
    let next = rw c.in-Ok-Some.field-0-is at c.in-Ok-Some.ensures.next in
    end_of_field _ _ _ (entry_of c.in-Ok-Some.field-0-0-0) next.0 next.1 next.2

pub returns-in-Ok-None-clause-end : goal.returns-in-Ok-None-clause-end
returns-in-Ok-None-clause-end c =
    end_of_payload c.args.payload.now c.args.at (rw c.in-Ok-None.field-0-is at c.in-Ok-None.ensures.next)

pub returns-in-Err-clause-end : goal.returns-in-Err-clause-end
returns-in-Err-clause-end c =
    end_without_field c.args.payload.now c.args.at c.in-Err.ensures.next.1
