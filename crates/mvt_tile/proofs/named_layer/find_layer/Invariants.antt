use Rattle.mvt_tile.proofs.NamedLayerLemmas.{Seeking}
use Rattle.mvt_tile.proofs.named_layer.find_layer.Given as goal

abbrev pub invariant-loop-field : goal.invariant-loop-field
invariant-loop-field l = Seeking l.name l.bytes l.index l.field-iterator.to_come
