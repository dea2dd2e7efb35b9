use Rattle.std.proofs.Common.{ℕ, [], ◌∷◌, refl, ap, sym, subst, append-nil}
use Rattle.mvt_message.specs.declared.item.Item.TheVariants.{Layer, Foreign}
use Rattle.mvt_message.specs.Items.{IsItem}
use Rattle.mvt_message.specs.LayerFields.{values_in}
use Rattle.mvt_message.specs.ValidItems.{ValidItem}
use Rattle.mvt_message.specs.Visiting.{OfFeatures}
use Rattle.mvt_wire.specs.Split.{split}
use Rattle.mvt_tile_value.specs.declared.layer_linting.LayerFindings.{LayerFindings}
use Rattle.mvt_tile_value.specs.Linting.{AreLintedSoFar}
use Rattle.mvt_tile_value.proofs.LintingLemmas.{item_linted}
use Rattle.mvt_tile_value.proofs.SurveyLemmas.{foreign_told, layer_told}
use Rattle.mvt_tile_value.proofs.lint_builder.LintBuilder.add.Goals as goal

abbrev HasGiven : LayerFindings → Type 0
HasGiven linted = Unit {0}

abbrev HasFeatures : ℕ → ℕ → OfFeatures LayerFindings
HasFeatures index extent keys values linted payloads features = AreLintedSoFar index extent values linted features

pub visit_version_2-requires : goal.visit_version_2-requires
visit_version_2-requires c κs =
    ((refl, tt), (c.requires.small, (c.requires.fits, ((c.args.index, c.extent_in-extent.result), c.new-linted.ensures))))

pub returns-in-Ok-Layer-clause-found : goal.returns-in-Ok-Layer-clause-found
returns-in-Ok-Layer-clause-found c = λ items found count.
    let index = c.args.index in
    let extent = c.extent_in-extent.result in
    let (item, is, valid, visited) = c.in-Ok-Layer.ensures.item (index, extent) c.new-linted.ensures tt in
    let reported = rw c.in-Ok-Layer.field-0-is at visited in
    let (layer, has, both) =
    layer_told HasGiven (HasFeatures index extent) c.args.payload.now c.visit_version_2.new.visitor c.in-Ok-Layer.name
    c.in-Ok-Layer.field-0-1
    (λ i. IsItem c.args.payload.now i × ValidItem i) item reported (is, valid) in
    let own = c.in_ok-add_layer-in-Ok-Layer.ensures.added (values_in (split c.args.payload.now).fields) layer
    (sym (c.extent_in-extent.ensures layer both.0)) has.2.0 in (
      Layer layer,
      both.0,
      both.1,
      ap (λ n. n ∷ []) has.0,
      item_linted index c.args.self.now c.add_layer.new.self items (Layer layer) count found own,
    )

pub returns-in-Ok-Foreign-clause-found : goal.returns-in-Ok-Foreign-clause-found
returns-in-Ok-Foreign-clause-found c = λ items found count.
    let index = c.args.index in
    let extent = c.extent_in-extent.result in
    let (item, is, valid, visited) = c.in-Ok-Foreign.ensures.item (index, extent) c.new-linted.ensures tt in
    let reported = rw c.in-Ok-Foreign.field-0-is at visited in
    let same =
    foreign_told HasGiven (HasFeatures index extent) c.args.payload.now c.visit_version_2.new.visitor c.in-Ok-Foreign.field-0-0 item
    reported is in (
      Foreign c.in-Ok-Foreign.field-0-0 c.args.payload.now,
      subst (IsItem c.args.payload.now) same is,
      subst ValidItem same valid,
      refl,
      item_linted index c.args.self.now c.args.self.now items (Foreign c.in-Ok-Foreign.field-0-0 c.args.payload.now) count found
          (sym (append-nil c.args.self.now.findings.items)),
    )
