use Rattle.std.proofs.Common.{◌<◌, [], length, Err, refl, ap, subst, sym, ◌∙◌, arith}
use Rattle.mvt_base.specs.declared.TheConstants.{LIMIT}
use Rattle.mvt_message.specs.Rewriting.{HasWrittenUpTo, IsPayloadOf}
use Rattle.mvt_message.proofs.PutLemmas.{exit_is, layer_geometries, layer_long}
use Rattle.mvt_message.proofs.RewriteLemmas.{canonical_layer}
use Rattle.mvt_message.proofs.item_writing.put_layer.Goals as goal

pub add_features-requires-clause-valid : goal.add_features-requires-clause-valid
add_features-requires-clause-valid c = layer_geometries c.args.layer.now c.as_slice.result.now c.requires c.as_slice.ensures

pub returns-in_err-add_features-clause-too_large : goal.returns-in_err-add_features-clause-too_large
returns-in_err-add_features-clause-too_large c = λ h.
    let same = exit_is c.from_residual-in_err-add_features.result c.from_residual-in_err-add_features.ensures.1 h in
    layer_long c.args.layer.now c.as_slice.ensures (c.in_err-add_features.ensures.too_large (ap Err same))

pub returns-in_default-clause-too_large : goal.returns-in_default-clause-too_large
returns-in_default-clause-too_large c = λ _.
    let layer = c.args.layer.now in
    let has = subst (HasWrittenUpTo LIMIT [] [] c.add_features.new.writer) c.as_slice.ensures c.in_ok-add_features.ensures.added in
    let made = c.in_ok-payload.ensures [] [] layer has (sym c.as_str.ensures.text) refl in
    subst (λ b. LIMIT < length b) (canonical_layer layer) (subst (IsPayloadOf LIMIT layer) c.in_default.is made)

pub returns-then-len-gt-LIMIT-clause-too_large : goal.returns-then-len-gt-LIMIT-clause-too_large
returns-then-len-gt-LIMIT-clause-too_large c = λ _.
    let layer = c.args.layer.now in
    let has = subst (HasWrittenUpTo LIMIT [] [] c.add_features.new.writer) c.as_slice.ensures c.in_ok-add_features.ensures.added in
    let made = c.in_ok-payload.ensures [] [] layer has (sym c.as_str.ensures.text) refl in
    let is = subst (IsPayloadOf LIMIT layer) c.in-Some.is made ∙ canonical_layer layer in
    subst (λ b. LIMIT < length b) is (omega (arith, c.len.ensures, c.in-Some.payload.ok.0))

pub returns-clause-put : goal.returns-clause-put
returns-clause-put c =
    let layer = c.args.layer.now in
    let has = subst (HasWrittenUpTo LIMIT [] [] c.add_features.new.writer) c.as_slice.ensures c.in_ok-add_features.ensures.added in
    let made = c.in_ok-payload.ensures [] [] layer has (sym c.as_str.ensures.text) refl in
    let is = subst (IsPayloadOf LIMIT layer) c.in-Some.is made ∙ canonical_layer layer in
    (is, omega (arith, c.len.ensures, c.in-Some.payload.ok.0))
