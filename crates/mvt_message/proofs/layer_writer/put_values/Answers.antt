use Rattle.std.proofs.Common.{[], sym, append-nil, ◌∙◌}
use Rattle.mvt_wire.specs.Spelling.{spelled}
use Rattle.mvt_feature.specs.Canonical.{value_fields}
use Rattle.mvt_message.specs.CanonicalItems.{value_field}
use Rattle.mvt_base.proofs.ResultLemmas.{on_err}
use Rattle.mvt_message.proofs.PutLemmas.{list_step, extends_more, head_extends}
use Rattle.mvt_message.proofs.layer_writer.put_values.Goals as goal

pub loop-value-preserved : goal.loop-value-preserved
loop-value-preserved c =
    let head = c.in_ok-put_field_head.ensures.ok (spelled (value_fields c.value-item.result)) (sym c.value_len.ensures) in
    list_step value_field c.args.values.now c.loop-value.value-index c.args.out.now.items c.loop-value-test.true (sym c.value-item.is)
    c.loop-value.invariant (c.in_ok-append_value.ensures.ok ∙ head)

pub returns-in_err-put_field_head-clause-left : goal.returns-in_err-put_field_head-clause-left
returns-in_err-put_field_head-clause-left c =
    on_err c.from_residual.result (extends_more _ _ c.loop-value.invariant c.in_err-put_field_head.ensures.left)

pub returns-in_err-append_value-clause-left : goal.returns-in_err-append_value-clause-left
returns-in_err-append_value-clause-left c =
    let d = spelled (value_fields c.value-item.result) in
    let head = head_extends c.loop-value.out.items c.put_field_head.new.out.items d 4
    (c.in_ok-put_field_head.ensures.ok d (sym c.value_len.ensures)) in
    let grown = extends_more _ _ c.loop-value.invariant head in
    on_err c.from_residual-in_err-append_value.result
    (extends_more _ _ grown.1 ([], c.in_err-append_value.ensures.err ∙ sym (append-nil c.put_field_head.new.out.items)))
