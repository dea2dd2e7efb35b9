use Rattle.std.proofs.Common.{◌++◌, arith, subst, refl}
use Rattle.std.proofs.lemmas.Result.{on_ok_weaker}
use Rattle.mvt_wire.specs.Field.{bytes}
use Rattle.mvt_wire.specs.Spelling.{short_field}
use Rattle.mvt_message.specs.declared.item.Item.TheVariants.{Foreign}
use Rattle.mvt_tile_value.specs.Comparing.{IsAfter}
use Rattle.mvt_tile_value.specs.declared.numbers.tile.TheConstants.{LAYERS}
use Rattle.mvt_tile_value.proofs.SurveyLemmas.{found_more, foreign_payload}
use Rattle.mvt_tile_value.proofs.WritingLemmas.{written}
use Rattle.mvt_tile_value.proofs.survey_builder.SurveyBuilder.add_foreign.Goals as goal

pub returns : goal.returns
returns c = λ input items found count.
    let item = Foreign c.args.version c.args.payload.now in
    let left = subst (λ d. IsAfter input (written items ++ short_field LAYERS (bytes d)) c.in_ok-self.field-0)
    (foreign_payload c.args.version c.args.payload.now) (c.in_ok-self.ensures input (written items) found.left) in
    on_ok_weaker c.note_if.result
    (λ noted. found_more 67108864 input c.args.self.now
    (record { features = c.args.self.now.features; left = c.in_ok-self.field-0; notes = c.note_if.new.notes })
    items item 0 c.args.index found count refl (omega arith) (omega arith) left noted) c.note_if.ensures
