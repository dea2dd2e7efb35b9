use Rattle.std.proofs.Common.{◌≡◌, Some, None, refl, sym, ◌∙◌}
use Rattle.std.proofs.lemmas.Result.{IfErr-weaker, IfOk-weaker, on_ok_weaker}
use Rattle.mvt_wire.specs.Split.{split}
use Rattle.mvt_feature.specs.declared.cause.Cause.TheVariants.{NoVersion}
use Rattle.mvt_feature.specs.declared.message_error.MessageError.TheVariants.{Fault}
use Rattle.mvt_message.specs.LayerFields.{version_in}
use Rattle.mvt_message.proofs.ReadLemmas.{as_two, head_none, head_reported, head_some, layer_reported, layer_item, other_item}
use Rattle.std.proofs.Math.Facts.{Fits-lt-pow}
use Rattle.mvt_message.proofs.ValidLemmas.{item_valid}
use Rattle.mvt_message.proofs.OrFaultLemmas.{item_of_layer, item_of_other}
use Rattle.mvt_message.specs.declared.item.Item.TheVariants.{Layer, Foreign}
use Rattle.mvt_message.proofs.visiting.visit_layer.Goals as goal

pub returns-in-Err-clause-item : goal.returns-in-Err-clause-item
returns-in-Err-clause-item g c = λ items has before. (
  Foreign c.in_ok-version-in-Err.version c.args.payload.now,
  c.in_ok-version-in-Err.ensures.foreign,
  item_valid c.args.payload.now _ (λ k. Fits-lt-pow (c.type_inv.payload k)) c.in_ok-version-in-Err.ensures.foreign,
  (refl, c.in-Err.ensures.kept items has before),
)

pub returns-in-None-clause-fault : goal.returns-in-None-clause-fault
returns-in-None-clause-fault g c =
    let (items, has) = c.requires.start in
    let header = (c.in-Ok.ensures.front items has).0 in
    let none : None ≡ version_in (split c.args.payload.now).fields = sym c.in-None.is ∙ header.version.1 in
    let fault = head_none c.args.payload.now c.args.payload_at c.args.tag_at c.in-Ok.ensures.whole header.version.0 none in
    rw c.fault_at.ensures (head_reported c.args.payload.now c.args.payload_at c.args.tag_at (Fault None c.args.tag_at NoVersion) fault)

pub visit_parts-requires : goal.visit_parts-requires
visit_parts-requires g c =
    let (items, has) = c.requires.start in
    λ k. ((refl, tt), (c.requires.small, (c.requires.fits, (c.in-Ok.ensures.whole, (items, c.in-Ok.ensures.front items has)))))

pub returns-then-version-eq-VERSION_2-clause-ok : goal.returns-then-version-eq-VERSION_2-clause-ok
returns-then-version-eq-VERSION_2-clause-ok g c =
    let (items, has) = c.requires.start in
    let header = (c.in-Ok.ensures.front items has).0 in
    let some : Some c.in-Some.version ≡ version_in (split c.args.payload.now).fields = sym c.in-Some.is ∙ header.version.1 in
    let ok = head_some c.args.payload.now c.args.payload_at c.args.tag_at _ c.in-Ok.ensures.whole header.version.0 some in
    let two = as_two (split c.args.payload.now).fields (sym some) c.if-version-eq-VERSION_2.true in
    on_ok_weaker c.visit_parts.result
    (λ none. item_of_layer c.args.payload.now c.args.payload_at c.args.tag_at ok two ∙ none) c.visit_parts.ensures.ok

pub returns-then-version-eq-VERSION_2-clause-item : goal.returns-then-version-eq-VERSION_2-clause-item
returns-then-version-eq-VERSION_2-clause-item g c = λ items has before.
    let header = (c.in-Ok.ensures.front items has).0 in
    let some : Some c.in-Some.version ≡ version_in (split c.args.payload.now).fields = sym c.in-Some.is ∙ header.version.1 in
    let ok = head_some c.args.payload.now c.args.payload_at c.args.tag_at _ c.in-Ok.ensures.whole header.version.0 some in
    let two = as_two (split c.args.payload.now).fields (sym some) c.if-version-eq-VERSION_2.true in
    IfOk-weaker c.visit_parts.result _ _
    (λ visited there. let item = layer_item c.args.payload.now c.args.payload_at c.args.tag_at there.0 ok two there.1 in
    (Layer there.0, item, item_valid c.args.payload.now _ (λ k. Fits-lt-pow (c.type_inv.payload k)) item, there.2))
    (c.visit_parts.ensures.layer items (c.in-Ok.ensures.front items has))

pub returns-then-version-eq-VERSION_2-clause-fault : goal.returns-then-version-eq-VERSION_2-clause-fault
returns-then-version-eq-VERSION_2-clause-fault g c =
    let (items, has) = c.requires.start in
    let header = (c.in-Ok.ensures.front items has).0 in
    let some : Some c.in-Some.version ≡ version_in (split c.args.payload.now).fields = sym c.in-Some.is ∙ header.version.1 in
    let ok = head_some c.args.payload.now c.args.payload_at c.args.tag_at _ c.in-Ok.ensures.whole header.version.0 some in
    let two = as_two (split c.args.payload.now).fields (sym some) c.if-version-eq-VERSION_2.true in
    IfErr-weaker c.visit_parts.result _ _
    (λ e reported. layer_reported c.args.payload.now c.args.payload_at c.args.tag_at e ok two reported)
    c.visit_parts.ensures.fault

pub returns-clause-ok : goal.returns-clause-ok
returns-clause-ok g c =
    let (items, has) = c.requires.start in
    let header = (c.in-Ok.ensures.front items has).0 in
    let some : Some c.in-Some.version ≡ version_in (split c.args.payload.now).fields = sym c.in-Some.is ∙ header.version.1 in
    let ok = head_some c.args.payload.now c.args.payload_at c.args.tag_at _ c.in-Ok.ensures.whole header.version.0 some in
    item_of_other c.args.payload.now c.args.payload_at c.args.tag_at c.in-Some.version ok (sym some) c.if-version-eq-VERSION_2.false

pub returns-clause-item : goal.returns-clause-item
returns-clause-item g c = λ items has before.
    let header = (c.in-Ok.ensures.front items has).0 in
    let some : Some c.in-Some.version ≡ version_in (split c.args.payload.now).fields = sym c.in-Some.is ∙ header.version.1 in
    let ok = head_some c.args.payload.now c.args.payload_at c.args.tag_at _ c.in-Ok.ensures.whole header.version.0 some in
    let item = other_item c.args.payload.now c.args.payload_at c.args.tag_at c.in-Some.version _ ok (sym some)
    c.if-version-eq-VERSION_2.false refl in (
      Foreign c.in-Some.version c.args.payload.now,
      item,
      item_valid c.args.payload.now _ (λ k. Fits-lt-pow (c.type_inv.payload k)) item,
      (refl, c.in-Ok.ensures.kept items has before),
    )
