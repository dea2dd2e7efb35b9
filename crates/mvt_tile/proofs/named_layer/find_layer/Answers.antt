use Rattle.std.proofs.Common.{ap, ◌∙◌}
use Rattle.mvt_wire.specs.Fields.{Ahead}
use Rattle.mvt_tile.proofs.NamedLayerLemmas.{seek_start}
use Rattle.mvt_tile.proofs.named_layer.find_layer.Goals as goal

pub loop-field-init : goal.loop-field-init
loop-field-init c =
    seek_start c.args.name.now c.args.bytes.now _
    (ap (λ (a : Ahead). a.to_come) c.into_iter-field-iterator.ensures.into_iter_gives ∙ c.new-field-items.ensures.fields)
