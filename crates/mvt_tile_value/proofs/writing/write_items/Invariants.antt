use Rattle.std.proofs.Common.{take}
use Rattle.mvt_io.specs.Transfers.{Wrote}
use Rattle.mvt_tile_value.proofs.WritingLemmas.{written}
use Rattle.mvt_tile_value.proofs.writing.write_items.Given as goal

abbrev pub invariant-loop-item : goal.invariant-loop-item
invariant-loop-item g l = Wrote (g.W.Sink.state l.initial.writer) (g.W.Sink.state l.writer) (written (take l.item-index l.items))
