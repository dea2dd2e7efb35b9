use Rattle.std.proofs.Common.{refl}
use Rattle.mvt_wire.specs.Field.{entry_of}
use Rattle.mvt_message.specs.LayerFields.{payloads_in}
use Rattle.mvt_message.proofs.HeldLemmas.{feature_skipped, feature_stops, feature_held}
use Rattle.mvt_message.proofs.features.visit_field.Goals as goal

pub returns-then-field-ne-FEATURES-clause-ok : goal.returns-then-field-ne-FEATURES-clause-ok
returns-then-field-ne-FEATURES-clause-ok g c = λ items held done are so_far.
    feature_skipped (entry_of c.args.field.now) so_far c.if-field-ne-FEATURES.true

pub returns-in-Ok-clause-ok : goal.returns-in-Ok-clause-ok
returns-in-Ok-clause-ok g c = λ items held done are so_far.
    let clean = rw c.bytes_of-payload.ensures at (c.in-Ok.ensures.ok items held (payloads_in done) so_far.features are so_far.has) in
    let there = rw c.bytes_of-payload.ensures at (c.in-Ok.ensures.feature items held (payloads_in done) so_far.features are so_far.has) in
    feature_held (entry_of c.args.field.now) so_far
    (g.V.LayerVisitor.has_features items c.args.keys.now held c.visit_feature.new.self) there.0 c.if-field-ne-FEATURES.false there.1
    clean there.2

pub returns-in-Err-clause-err : goal.returns-in-Err-clause-err
returns-in-Err-clause-err g c = λ items held done more are so_far.
    feature_stops (entry_of c.args.field.now) so_far more _ _ c.if-field-ne-FEATURES.false refl
    (c.in_feature.ensures _ (rw c.bytes_of-payload.ensures at
    (c.in-Err.ensures.err items held (payloads_in done) so_far.features are so_far.has)))
