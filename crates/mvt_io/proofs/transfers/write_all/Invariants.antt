use Rattle.std.proofs.Common.{◌≡◌, ◌+◌, ◌≤◌, length}
use Rattle.mvt_io.specs.States.{NoneFailed}
use Rattle.mvt_io.proofs.Fronts.{TakesFront}
use Rattle.mvt_io.proofs.transfers.write_all.Given as goal

abbrev pub invariant-loop-rest : goal.invariant-loop-rest
invariant-loop-rest g l = record {
  front : TakesFront (g.W.Sink.state l.initial.writer).taken (g.W.Sink.state l.writer).taken l.bytes l.rest;
  writes : (g.W.Sink.state l.writer).writes + length l.rest ≤ (g.W.Sink.state l.initial.writer).writes + length l.bytes;
  flushes : (g.W.Sink.state l.writer).flushes ≡ (g.W.Sink.state l.initial.writer).flushes;
  faults : NoneFailed (g.W.Sink.state l.initial.writer).faults (g.W.Sink.state l.writer).faults;
}

abbrev pub decreases-loop-rest : goal.decreases-loop-rest
decreases-loop-rest g l = length l.rest
