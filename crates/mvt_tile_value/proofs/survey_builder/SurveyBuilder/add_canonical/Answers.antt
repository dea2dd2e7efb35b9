use Rattle.std.proofs.Common.{◌≡◌, [], ◌++◌, arith, sym, subst, ◌∙◌, append-nil}
use Rattle.mvt_wire.specs.Field.{bytes}
use Rattle.mvt_wire.specs.Spelling.{short_field}
use Rattle.mvt_message.specs.declared.item.Item.TheVariants.{Layer}
use Rattle.mvt_message.specs.CanonicalItems.{canonical_item}
use Rattle.mvt_tile_value.specs.Comparing.{IsAfter}
use Rattle.mvt_tile_value.specs.declared.numbers.tile.TheConstants.{LAYERS}
use Rattle.mvt_tile_value.proofs.SurveyLemmas.{found_more, on_ok_joined}
use Rattle.mvt_tile_value.proofs.WritingLemmas.{field_of, written}
use Rattle.mvt_tile_value.proofs.survey_builder.SurveyBuilder.add_canonical.Goals as goal

pub returns : goal.returns
returns c = λ input items l found count noted canonical.
    let payload = c.args.payload.now in
    let whole : [] ++ (payload ++ []) ≡ canonical_item (Layer l) = append-nil payload ∙ sym canonical in
    let left = subst (λ d. IsAfter input (written items ++ short_field LAYERS (bytes d)) c.in_ok-self.field-0) whole
    (c.in_ok-self.ensures input (written items) found.left) in
    on_ok_joined c.add_notes.result
    (λ more told same. found_more 67108864 input c.args.self.now c.add_notes.new.self items (Layer l) c.args.noted.now.count c.args.index
    found count
    noted.0.count_is (omega (arith, c.add_notes.ensures.few)) more
    (subst (IsAfter input (written items ++ field_of (Layer l))) (sym same) left) told)
    c.add_notes.ensures.count (c.add_notes.ensures.notes l.features noted) c.add_notes.ensures.left
