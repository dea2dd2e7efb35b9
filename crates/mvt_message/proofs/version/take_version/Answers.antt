use Rattle.mvt_wire.specs.Field.{entry_of}
use Rattle.mvt_message.proofs.ReadLemmas.{version_passes, version_stays, version_clean, version_take, version_stops}
use Rattle.mvt_message.proofs.version.take_version.Goals as goal

pub returns-then-field-ne-VERSION-clause-more : goal.returns-then-field-ne-VERSION-clause-more
returns-then-field-ne-VERSION-clause-more c =
    λ done so_far. version_passes c.args.payload_at done c.args.version.now (entry_of c.args.field.now) so_far c.if-field-ne-VERSION.true

pub returns-then-is_err-clause-more : goal.returns-then-is_err-clause-more
returns-then-is_err-clause-more c =
    λ done so_far. version_stays c.args.payload_at done c.args.version.now (entry_of c.args.field.now) c.if-is_err.ensures.value so_far

pub returns-in-Ok-clause-more : goal.returns-in-Ok-clause-more
returns-in-Ok-clause-more c = λ done so_far.
    let now = version_clean c.args.payload_at done c.args.version.now c.if-is_err.ensures.value so_far in
    version_take c.args.payload_at done now.0
    (entry_of c.args.field.now) _ now.1 c.if-field-ne-VERSION.false c.in-Ok.ensures.number c.in-Ok.ensures.ok

pub returns-in-Err-clause-more : goal.returns-in-Err-clause-more
returns-in-Err-clause-more c = λ done so_far more.
    let now = version_clean c.args.payload_at done c.args.version.now c.if-is_err.ensures.value so_far in
    version_stops c.args.payload_at done now.0 (entry_of c.args.field.now) _ now.1 c.if-field-ne-VERSION.false c.in-Err.ensures.err more
