use Rattle.std.proofs.Common.{◌≡◌, ◌+◌, ◌≤◌, [], length, max}
use Rattle.mvt_io.specs.States.{NoneFailed}
use Rattle.mvt_tile.specs.Inner.Feeding.{HasFed}
use Rattle.mvt_tile.specs.Inner.Taking.{HasTaken}
use Rattle.mvt_tile.proofs.reading.feed_all.Given as goal

abbrev pub invariant-loop-turn : goal.invariant-loop-turn
invariant-loop-turn g l = record {
  fed : (input : g.V.TileVisitor.Given) → HasTaken (g.V.TileVisitor.has_items input []) l.initial.partial.taken []
      → HasFed 67108864 (λ payloads. HasTaken (g.V.TileVisitor.has_items input payloads) l.partial.taken) l.partial.offset
      l.partial.raw.items
      (g.R.Source.state l.initial.reader).left (g.R.Source.state l.reader).left l._turn;
  small : l.partial.offset + length l.partial.raw.items ≤ 67108864;
  reads : (g.R.Source.state l.reader).reads ≤ (g.R.Source.state l.initial.reader).reads + l._turn;
  empty : (g.R.Source.state l.reader).empty ≡ (g.R.Source.state l.initial.reader).empty;
  asked : (g.R.Source.state l.reader).asked ≤ max (g.R.Source.state l.initial.reader).asked 65536;
  faults : NoneFailed (g.R.Source.state l.initial.reader).faults (g.R.Source.state l.reader).faults;
}
