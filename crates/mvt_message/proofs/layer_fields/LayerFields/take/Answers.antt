use Rattle.mvt_wire.specs.Field.{entry_of}
use Rattle.mvt_message.proofs.ReadLemmas.{header_step, header_stops}
use Rattle.mvt_message.proofs.layer_fields.LayerFields.take.Goals as goal

pub returns-in-Err-clause-broken : goal.returns-in-Err-clause-broken
returns-in-Err-clause-broken g c = λ items done more so_far none.
    header_stops (entry_of c.args.field.now) _ so_far.0 c.in-Err.ensures.err more none

pub returns-in-Err-take_value-clause-broken : goal.returns-in-Err-take_value-clause-broken
returns-in-Err-take_value-clause-broken g c = λ items done more so_far. c.in-Err-take_value.ensures.err items done more so_far.1

pub returns-clause-ok : goal.returns-clause-ok
returns-clause-ok g c = λ items done so_far.
    let step = c.in-Ok.ensures in (
      header_step _ (entry_of c.args.field.now) so_far.0 step.ok step.version step.name step.extent step.keys step.features,
      c.in-Ok-take_value.ensures.ok items done so_far.1,
    )
