use Rattle.std.proofs.Common.{◌≡◌, ◌++◌, arith, ap, ap₂, sym, subst, ◌∙◌}
use Rattle.mvt_wire.specs.Field.{bytes}
use Rattle.mvt_wire.specs.Spelling.{short_field, spelled}
use Rattle.mvt_message.specs.declared.item.Item.TheVariants.{Layer}
use Rattle.mvt_message.specs.CanonicalItems.{canonical_item, head_fields}
use Rattle.mvt_message.specs.Rewriting.{tail_of}
use Rattle.mvt_tile_value.specs.Comparing.{IsAfter}
use Rattle.mvt_tile_value.specs.declared.numbers.tile.TheConstants.{LAYERS}
use Rattle.mvt_tile_value.proofs.SurveyLemmas.{found_more, on_ok_joined}
use Rattle.mvt_tile_value.proofs.WritingLemmas.{field_of, written}
use Rattle.mvt_tile_value.proofs.survey_builder.SurveyBuilder.add_layer.Goals as goal

pub returns : goal.returns
returns c = λ input items l found count noted canonical.
    let layer = c.args.layer.now in
    let own = layer.visitor in
    let head : c.deref.result.now ≡ spelled (head_fields layer.name.now) =
    c.deref.ensures.value ∙ c.in_ok-append_head.ensures.ok ∙ ap (λ b. b ++ spelled (head_fields layer.name.now)) c.new-head.ensures.items in
    let tail : c.deref-2.result.now ≡ tail_of layer.writer.uses layer.extent =
    c.deref-2.ensures.value ∙ c.in_ok-append_tail.ensures.ok
    ∙ ap (λ b. b ++ tail_of layer.writer.uses layer.extent) c.new-tail.ensures.items in
    let payload : c.deref.result.now ++ (c.features.result.now ++ c.deref-2.result.now) ≡ canonical_item (Layer l) =
    ap₂ (λ h b. h ++ b) head (ap₂ (λ d t. d ++ t) (c.features.ensures) tail) ∙ sym canonical in
    let left = subst (λ d. IsAfter input (written items ++ short_field LAYERS (bytes d)) c.in_ok-self.field-0) payload
    (c.in_ok-self.ensures input (written items) found.left) in
    on_ok_joined c.add_notes.result
    (λ more told same. found_more 67108864 input c.args.self.now c.add_notes.new.self items (Layer l) own.count c.args.index found count
    noted.0.count_is (omega (arith, c.add_notes.ensures.few)) more
    (subst (IsAfter input (written items ++ field_of (Layer l))) (sym same) left) told)
    c.add_notes.ensures.count (c.add_notes.ensures.notes l.features noted) c.add_notes.ensures.left
