use Rattle.std.proofs.Common.{[], ◌∷◌, arith, List, length, refl, ap, sym, subst}
use Rattle.mvt_message.specs.declared.item.Item.{Item}
use Rattle.mvt_message.specs.declared.item.Item.TheVariants.{Layer, Foreign}
use Rattle.mvt_message.specs.Items.{IsItem}
use Rattle.mvt_message.specs.ValidItems.{ValidItem}
use Rattle.mvt_message.specs.Visiting.{OfFeatures}
use Rattle.mvt_tile_value.specs.declared.layer_noting.LayerNotes.{LayerNotes}
use Rattle.mvt_tile_value.specs.Findings.{AreNotedSoFar}
use Rattle.mvt_tile_value.proofs.SurveyLemmas.{foreign_told, layer_other, layer_told}
use Rattle.mvt_tile_value.proofs.survey_builder.SurveyBuilder.add_other.Goals as goal

abbrev HasGiven : List Item → LayerNotes → Type 0
HasGiven items noted = AreNotedSoFar (length items) noted []

abbrev HasFeatures : List Item → OfFeatures LayerNotes
HasFeatures items keys values noted payloads features = AreNotedSoFar (length items) noted features

pub visit_version_2-requires : goal.visit_version_2-requires
visit_version_2-requires c κs =
    let (input, items, found, count) = c.requires.found in
    let start = subst (λ n. AreNotedSoFar n c.new-noted.result []) (sym count) c.new-noted.ensures in
    ((refl, tt), (c.requires.small, (c.requires.fits, (items, start))))

pub returns-in-Ok-Layer-clause-found : goal.returns-in-Ok-Layer-clause-found
returns-in-Ok-Layer-clause-found c = λ input items found count.
    let start = subst (λ n. AreNotedSoFar n c.new-noted.result []) (sym count) c.new-noted.ensures in
    let (item, is, valid, visited) = c.in-Ok-Layer.ensures.item items start start in
    let reported = rw c.in-Ok-Layer.field-0-is at visited in
    let (layer, has, both) =
    layer_told (HasGiven items) (HasFeatures items) c.args.payload.now c.visit_version_2.new.visitor c.in-Ok-Layer.name
    c.in-Ok-Layer.field-0-1
    (λ i. IsItem c.args.payload.now i × ValidItem i) item reported (is, valid) in
    let noted = subst (λ n. AreNotedSoFar n c.visit_version_2.new.visitor layer.features) count has.2 in (
      Layer layer,
      both.0,
      both.1,
      ap (λ n. n ∷ []) has.0,
      layer_other 67108864 input c.args.self.now c.add_notes.new.self items layer c.visit_version_2.new.visitor.count c.args.index found
          count
          c.requires.other both.1 noted.0.count_is (omega (arith, c.in_ok-add_notes-in-Ok-Layer.ensures.few))
          c.in_ok-add_notes-in-Ok-Layer.ensures.count
          c.in_ok-add_notes-in-Ok-Layer.ensures.left (c.in_ok-add_notes-in-Ok-Layer.ensures.notes layer.features noted),
    )

pub returns-in-Ok-Foreign-clause-found : goal.returns-in-Ok-Foreign-clause-found
returns-in-Ok-Foreign-clause-found c = λ input items found count.
    let start = subst (λ n. AreNotedSoFar n c.new-noted.result []) (sym count) c.new-noted.ensures in
    let (item, is, valid, visited) = c.in-Ok-Foreign.ensures.item items start start in
    let reported = rw c.in-Ok-Foreign.field-0-is at visited in
    let same =
    foreign_told (HasGiven items) (HasFeatures items) c.args.payload.now c.visit_version_2.new.visitor c.in-Ok-Foreign.version item
    reported is in (
      Foreign c.in-Ok-Foreign.version c.args.payload.now,
      subst (IsItem c.args.payload.now) same is,
      subst ValidItem same valid,
      refl,
      c.in_ok-add_foreign-in-Ok-Foreign.ensures input items found count,
    )
