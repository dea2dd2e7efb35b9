use Rattle.std.proofs.lemmas.Result.{err_from_is_err_and}
use Rattle.mvt_wire.specs.Field.{entry_of}
use Rattle.mvt_message.proofs.HeldLemmas.{value_skipped, value_stops, value_held}
use Rattle.mvt_message.proofs.values.take_value.Goals as goal

pub returns-then-field-ne-VALUES-clause-ok : goal.returns-then-field-ne-VALUES-clause-ok
returns-then-field-ne-VALUES-clause-ok g c = λ items done so_far.
    value_skipped (entry_of c.args.field.now) so_far c.if-field-ne-VALUES.true

pub returns-in_err-visit_value-clause-err : goal.returns-in_err-visit_value-clause-err
returns-in_err-visit_value-clause-err g c = λ items done more so_far.
    let p = err_from_is_err_and c.from_residual.result c.from_residual.ensures.1 in
    let reported = rw c.bytes_of-payload.ensures at c.in_err-visit_value.ensures.err in
    rw (p.1, p.2) (value_stops (entry_of c.args.field.now) so_far more _ c.if-field-ne-VALUES.false reported)

pub returns-in_err-visit_value-clause-kept : goal.returns-in_err-visit_value-clause-kept
returns-in_err-visit_value-clause-kept g c = λ items held has before. c.in_err-visit_value.ensures.kept items held has

pub returns-clause-ok : goal.returns-clause-ok
returns-clause-ok g c = λ items done so_far.
    let clean = rw c.bytes_of-payload.ensures at c.in_ok-visit_value.ensures.ok in
    let there = rw c.bytes_of-payload.ensures at (c.in_ok-visit_value.ensures.value items so_far.values so_far.has) in
    value_held (entry_of c.args.field.now) so_far (g.V.LayerVisitor.has_values items c.visit_value.new.self) there.0
    c.if-field-ne-VALUES.false there.1 clean there.2

pub returns-clause-kept : goal.returns-clause-kept
returns-clause-kept g c = λ items held has before. c.in_ok-visit_value.ensures.kept items held has
