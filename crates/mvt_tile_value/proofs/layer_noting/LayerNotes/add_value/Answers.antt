use Rattle.std.proofs.Common.{length, refl}
use Rattle.mvt_tile_value.proofs.RingLemmas.{all_noted_of}
use Rattle.mvt_tile_value.proofs.layer_noting.LayerNotes.add_value.Goals as goal

pub returns : goal.returns
returns c = λ layer features noted.
    let feature = c.args.feature.now in
    let before = noted.0 in
    let rings = all_noted_of layer (length features) c.args.self.now.rings _ feature.geometry noted.1 c.in_ok-tell_geometry.ensures in
    c.add.ensures layer features feature
    (record { layer_is = before.layer_is; count_is = before.count_is; ids_are = before.ids_are; notes_are = before.notes_are }) rings refl
