use Rattle.std.proofs.Common.{ap}
use Rattle.std.proofs.lemmas.Result.{err_from_is_err_and}
use Rattle.mvt_feature.proofs.ValueLemmas.{reports_value, kinds_value, value_clean, value_keeps, value_kind_reported}
use Rattle.mvt_feature.specs.ValueRules.{are_one_kind}
use Rattle.mvt_feature.proofs.value.read_value_ref.Goals as goal

pub returns-in_err-meaning-clause-err : goal.returns-in_err-meaning-clause-err
returns-in_err-meaning-clause-err c =
    let p = err_from_is_err_and c.from_residual.result c.from_residual.ensures.1 in
    rw (p.1, p.2) (reports_value c.args.payload.now c.args.payload_at c.args.tag_at c.in_err-meaning.field-0.0 c.in_err-meaning.ensures.err)

pub returns-in-Some-clause-ok : goal.returns-in-Some-clause-ok
returns-in-Some-clause-ok c =
    value_keeps c.args.payload.now c.args.payload_at c.args.tag_at _ c.in-Some.ensures

pub returns-in-One-clause-value : goal.returns-in-One-clause-value
returns-in-One-clause-value c =
    kinds_value c.args.payload.now c.args.payload_at _ _ c.in_ok-meaning.ensures.whole c.in_ok-meaning.ensures.ok
    (rw c.in-One.is at c.in_ok-meaning.ensures.kinds)

pub returns-in-One-clause-ok : goal.returns-in-One-clause-ok
returns-in-One-clause-ok c =
    let read = c.in_ok-meaning.ensures in
    value_clean c.args.payload.now c.args.payload_at c.args.tag_at read.whole read.ok (rw c.in-One.is at read.kinds).0

pub returns-in-Nothing-clause-err : goal.returns-in-Nothing-clause-err
returns-in-Nothing-clause-err c =
    let read = c.in_ok-meaning.ensures in
    rw c.fault_at.ensures (value_kind_reported c.args.payload.now c.args.payload_at c.args.tag_at read.whole read.ok
    (ap are_one_kind (rw c.in-Nothing.is at read.kinds)))

pub returns-in-Several-clause-err : goal.returns-in-Several-clause-err
returns-in-Several-clause-err c =
    let read = c.in_ok-meaning.ensures in
    rw c.fault_at-in-Several.ensures (value_kind_reported c.args.payload.now c.args.payload_at c.args.tag_at read.whole read.ok
    (rw c.in-Several.is at read.kinds).1)
