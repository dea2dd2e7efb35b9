use Rattle.std.proofs.Common.{true, false}
use Rattle.std.specs.List.{flat_map}
use Rattle.mvt_message.specs.Items.{names_in}
use Rattle.mvt_rows.specs.declared.rows_cause.RowsCause.TheVariants.{NameText, RepeatedName}
use Rattle.mvt_rows.specs.Lent.{table_of}
use Rattle.mvt_rows.proofs.FaultLemmas.{any_there, inside_blamed, name_blamed, name_found, name_no_text, text_found, wrong_in}
use Rattle.mvt_rows.proofs.WritingLemmas.{layer_added, name_fresh, name_repeated}
use Rattle.mvt_rows.proofs.writing.RowsWriter.add_layer.Goals as goal

pub layer_payload-requires : goal.layer_payload-requires
layer_payload-requires c =
    let part = any_there _ c.part.result c.if_any.result c.in_ok-bytes.field-0 c.in-Some.bytes c.part.ensures.part c.if_any.ensures
    c.in_ok-bytes.was c.in-Some.is in
    text_found c.args.rows.now.texts.now c.args.row.now.name c.in-Some.bytes.now c.in-Ok.name.now part c.in-Ok.ensures.cases.1
    c.in-Ok.ensures.cases.0

pub returns-in_default-from_utf8-clause-wrong : goal.returns-in_default-from_utf8-clause-wrong
returns-in_default-from_utf8-clause-wrong c = λ items has.
    let t = table_of c.args.rows.now in
    let names = flat_map names_in items in
    let part = any_there _ c.part.result c.if_any.result c.in_ok-bytes.field-0 c.in-Some.bytes c.part.ensures.part c.if_any.ensures
    c.in_ok-bytes.was c.in-Some.is in
    name_blamed t names c.args.row.now NameText c.requires
    (name_no_text t names c.args.row.now c.in-Some.bytes.now part c.in_default-from_utf8.ensures.cases.0)

pub returns-then-not-branch-clause-wrong : goal.returns-then-not-branch-clause-wrong
returns-then-not-branch-clause-wrong c = λ items has.
    let t = table_of c.args.rows.now in
    let names = flat_map names_in items in
    let part = any_there _ c.part.result c.if_any.result c.in_ok-bytes.field-0 c.in-Some.bytes c.part.ensures.part c.if_any.ensures
    c.in_ok-bytes.was c.in-Some.is in
    let text = text_found t.texts c.args.row.now.name c.in-Some.bytes.now c.in-Ok.name.now part c.in-Ok.ensures.cases.1
    c.in-Ok.ensures.cases.0 in
    name_blamed t names c.args.row.now RepeatedName c.requires
    (name_found t names c.args.row.now c.in-Ok.name.now true text
    (name_repeated c.args.self.now.names items c.in-Ok.name.now c.in_ok-from_str.field-0 c.in_ok-add.field-0 has.named
    c.in_ok-from_str.ensures.same c.in_ok-add.ensures.new c.if-not-branch.true))

pub returns-in_err-payload-clause-wrong : goal.returns-in_err-payload-clause-wrong
returns-in_err-payload-clause-wrong c = λ items has.
    let t = table_of c.args.rows.now in
    let names = flat_map names_in items in
    let part = any_there _ c.part.result c.if_any.result c.in_ok-bytes.field-0 c.in-Some.bytes c.part.ensures.part c.if_any.ensures
    c.in_ok-bytes.was c.in-Some.is in
    let text = text_found t.texts c.args.row.now.name c.in-Some.bytes.now c.in-Ok.name.now part c.in-Ok.ensures.cases.1
    c.in-Ok.ensures.cases.0 in
    let fresh = name_found t names c.args.row.now c.in-Ok.name.now false text
    (name_fresh c.args.self.now.names items c.in-Ok.name.now c.in_ok-from_str.field-0 c.in_ok-add.field-0 has.named
    c.in_ok-from_str.ensures.same c.in_ok-add.ensures.new c.if-not-branch.false) in
    wrong_in c.from_residual-in_err-payload.result _ _ _ c.from_residual-in_err-payload.ensures.1 c.in_err-payload.ensures.wrong
    (inside_blamed t names c.args.row.now c.requires fresh)

pub returns-clause-added : goal.returns-clause-added
returns-clause-added c = λ items has.
    let (layer, valid, payload) = c.in_ok-payload.ensures.payload in
    let part = any_there _ c.part.result c.if_any.result c.in_ok-bytes.field-0 c.in-Some.bytes c.part.ensures.part c.if_any.ensures
    c.in_ok-bytes.was c.in-Some.is in
    let text = text_found c.args.rows.now.texts.now c.args.row.now.name c.in-Some.bytes.now c.in-Ok.name.now part c.in-Ok.ensures.cases.1
    c.in-Ok.ensures.cases.0 in
    layer_added (table_of c.args.rows.now) c.args.row.now layer items c.args.self.now _ _ _ _ c.requires text
    c.in_ok-from_str.ensures.same has valid c.in_ok-add.ensures.new c.if-not-branch.false
    (c.in_ok-add.ensures.named c.if-not-branch.false)
    (c.in_ok-self.ensures items layer (rw c.take.ensures.value has.encoded) payload)
