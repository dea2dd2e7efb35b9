use Rattle.std.proofs.Common.{[], ◌∷◌, refl, ap, sym, subst}
use Rattle.mvt_message.specs.declared.item.Item.TheVariants.{Layer, Foreign}
use Rattle.mvt_tile_value.specs.Findings.{AreNotedSoFar}
use Rattle.mvt_tile_value.proofs.survey_builder.SurveyBuilder.add_rewritten.Goals as goal

pub visit_version_2-requires : goal.visit_version_2-requires
visit_version_2-requires c κs =
    let (input, items, found, count) = c.requires.found in
    let start = subst (λ n. AreNotedSoFar n c.new-noted.result []) (sym count) c.new-noted.ensures in
    ((refl, tt), (c.requires.small, (c.requires.fits, (items, c.in_ok-rewriter.ensures items start))))

pub returns-in_ok-add_layer-in-Layer-clause-found : goal.returns-in_ok-add_layer-in-Layer-clause-found
returns-in_ok-add_layer-in-Layer-clause-found c = λ input items found count.
    let start = subst (λ n. AreNotedSoFar n c.new-noted.result []) (sym count) c.new-noted.ensures in
    let begun = c.in_ok-rewriter.ensures items start in
    let (item, is, valid, visited) = c.in_ok-visited.ensures.item items begun begun.2 in
    let (layer, read, sound, name, told, canonical) =
    rw c.in-Layer.is at c.finish.ensures items c.args.payload.now item is valid visited in (
      Layer layer,
      read,
      sound,
      ap (λ n. n ∷ []) name,
      c.in_ok-add_layer-in-Layer.ensures input items layer found count
          (subst (λ n. AreNotedSoFar n c.in-Layer.layer.visitor layer.features) count told) canonical,
    )

pub returns-in_ok-add_foreign-in-Foreign-clause-found : goal.returns-in_ok-add_foreign-in-Foreign-clause-found
returns-in_ok-add_foreign-in-Foreign-clause-found c = λ input items found count.
    let start = subst (λ n. AreNotedSoFar n c.new-noted.result []) (sym count) c.new-noted.ensures in
    let begun = c.in_ok-rewriter.ensures items start in
    let (item, is, valid, visited) = c.in_ok-visited.ensures.item items begun begun.2 in
    let (read, sound) = rw c.in-Foreign.is at c.finish.ensures items c.args.payload.now item is valid visited in (
      Foreign c.in-Foreign.version c.args.payload.now,
      read,
      sound,
      refl,
      c.in_ok-add_foreign-in-Foreign.ensures input items found count,
    )
