use Rattle.std.proofs.Common.{[], ◌∷◌, ap}
use Rattle.mvt_message.specs.declared.item.Item.TheVariants.{Layer}
use Rattle.mvt_message.proofs.MessageLaws.{item_or_fault_clean}
use Rattle.mvt_tile_value.proofs.survey_builder.SurveyBuilder.add.Goals as goal

pub returns-in_ok-add_canonical-in-Ok-clause-ok : goal.returns-in_ok-add_canonical-in-Ok-clause-ok
returns-in_ok-add_canonical-in-Ok-clause-ok c =
    let (input, items, found, count) = c.requires.found in
    let (layer, is, valid, named, canonical, noted) = rw c.in-Ok.is at c.canonical_notes.ensures items count in
    item_or_fault_clean c.args.payload.now c.args.payload_at c.args.tag_at (Layer layer) is

pub returns-in_ok-add_canonical-in-Ok-clause-found : goal.returns-in_ok-add_canonical-in-Ok-clause-found
returns-in_ok-add_canonical-in-Ok-clause-found c = λ input items found count.
    let (layer, is, valid, named, canonical, noted) = rw c.in-Ok.is at c.canonical_notes.ensures items count in (
      Layer layer,
      is,
      valid,
      ap (λ n. n ∷ []) named,
      c.in_ok-add_canonical-in-Ok.ensures input items layer found count noted canonical,
    )
