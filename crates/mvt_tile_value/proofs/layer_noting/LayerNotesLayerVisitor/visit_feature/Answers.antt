use Rattle.std.proofs.Common.{length, refl}
use Rattle.mvt_feature.specs.declared.feature.Feature.{Feature}
use Rattle.mvt_tile_value.proofs.layer_noting.LayerNotesLayerVisitor.visit_feature.Goals as goal

pub returns-clause-feature : goal.returns-clause-feature
returns-clause-feature c = λ items held payloads features are has.
    let drawn = c.in_ok-known.ensures.feature (length items) (length features) has.1 held are in
    let f : Feature = record { id = c.in_ok-known.known.id; attributes = drawn.attributes; geometry = drawn.geometry } in (
      f,
      drawn.is,
      c.in_ok-add.ensures (length items) features f (record {
        layer_is = has.0.layer_is;
        count_is = has.0.count_is;
        ids_are = has.0.ids_are;
        notes_are = has.0.notes_are;
      }) drawn.holds refl,
    )
