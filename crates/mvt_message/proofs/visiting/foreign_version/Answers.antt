use Rattle.std.proofs.Common.{refl}
use Rattle.std.proofs.lemmas.Result.{err_from_is_err_and}
use Rattle.mvt_wire.specs.Split.{split}
use Rattle.mvt_message.proofs.OrFaultLemmas.{item_of_other}
use Rattle.mvt_message.proofs.ReadLemmas.{as_two, forms_reported, head_reported, head_whole, layer_reported, other_item, versions_clean}
use Rattle.mvt_message.proofs.visiting.foreign_version.Goals as goal

pub returns-in_err-version-clause-fault : goal.returns-in_err-version-clause-fault
returns-in_err-version-clause-fault c =
    let p = err_from_is_err_and c.from_residual.result c.from_residual.ensures.1 in
    rw (p.1, p.2) (head_reported c.args.payload.now c.args.payload_at c.args.tag_at _ c.in_err-version.ensures.err)

pub returns-then-version-ne-VERSION_2-clause-ok : goal.returns-then-version-ne-VERSION_2-clause-ok
returns-then-version-ne-VERSION_2-clause-ok c =
    item_of_other c.args.payload.now c.args.payload_at c.args.tag_at c.in_ok-version.version c.in_ok-version.ensures.ok
    c.in_ok-version.ensures.version c.if-version-ne-VERSION_2.true

pub returns-then-version-ne-VERSION_2-clause-foreign : goal.returns-then-version-ne-VERSION_2-clause-foreign
returns-then-version-ne-VERSION_2-clause-foreign c =
    other_item c.args.payload.now c.args.payload_at c.args.tag_at c.in_ok-version.version _ c.in_ok-version.ensures.ok
    c.in_ok-version.ensures.version c.if-version-ne-VERSION_2.true refl

pub header_fault_before-requires-clause-whole : goal.header_fault_before-requires-clause-whole
header_fault_before-requires-clause-whole c =
    head_whole c.args.payload.now c.args.payload_at c.args.tag_at c.in_ok-version.ensures.ok

pub header_fault_before-requires-clause-versions : goal.header_fault_before-requires-clause-versions
header_fault_before-requires-clause-versions c =
    versions_clean c.args.payload.now c.args.payload_at c.args.tag_at c.in_ok-version.ensures.ok

pub returns-in-Field-clause-fault : goal.returns-in-Field-clause-fault
returns-in-Field-clause-fault c =
    let ok = c.in_ok-version.ensures.ok in
    let two = as_two (split c.args.payload.now).fields c.in_ok-version.ensures.version c.if-version-ne-VERSION_2.false in
    let broken = rw c.in-Field.is at (c.requires.broken (head_whole c.args.payload.now c.args.payload_at c.args.tag_at ok)) in
    layer_reported c.args.payload.now c.args.payload_at c.args.tag_at c.in-Field.error ok two
    (forms_reported c.args.payload_at c.args.tag_at (split c.args.payload.now).fields c.in-Field.error
    (broken (versions_clean c.args.payload.now c.args.payload_at c.args.tag_at ok)))

pub returns-in-Value-clause-fault : goal.returns-in-Value-clause-fault
returns-in-Value-clause-fault c =
    let ok = c.in_ok-version.ensures.ok in
    let two = as_two (split c.args.payload.now).fields c.in_ok-version.ensures.version c.if-version-ne-VERSION_2.false in
    let broken = rw c.in-Value.is at (c.requires.broken (head_whole c.args.payload.now c.args.payload_at c.args.tag_at ok)) in
    layer_reported c.args.payload.now c.args.payload_at c.args.tag_at _ ok two (c.header_fault_before.ensures broken)
