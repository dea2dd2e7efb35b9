use Rattle.std.proofs.Common.{length, subst, ◌∙◌}
use Rattle.mvt_tile_value.specs.Rings.{HasBegun}
use Rattle.mvt_tile_value.proofs.RingLemmas.{still_noted, told_layer}
use Rattle.mvt_tile_value.proofs.layer_noting.LayerNotesFeatureVisitor.begin_feature.Goals as goal

pub returns : goal.returns
returns c = λ items features start parts begun has given.
    let old = c.args.self.now in
    let layer = told_layer (length items) (length features) start.rings old.rings parts has.1 given.1 in (
      still_noted (length items) features start _ (record {
        layer_is = given.0.layer_is;
        count_is = given.0.count_is;
        ids_are = given.0.ids_are;
        notes_are = given.0.notes_are;
      }) has.0,
      subst (λ k. HasBegun (length items) k c.begin.new.self) (given.0.count_is ∙ has.0.count_is)
          (subst (λ l. HasBegun l old.count c.begin.new.self) layer c.begin.ensures),
    )
