use Rattle.std.proofs.Common.{◌+◌, ◌≤◌, ◌≡◌, max, length}
use Rattle.std.specs.Io.KnownBytes.{Consumes}
use Rattle.mvt_io.specs.States.{NoneFailed}
use Rattle.mvt_io.proofs.transfers.read_up_to.Given as goal

abbrev pub invariant-loop-missing : goal.invariant-loop-missing
invariant-loop-missing g l = record {
  consumed : Consumes (g.R.Source.state l.initial.reader).left (g.R.Source.state l.reader).left l.bytes.items;
  missing : length l.bytes.items + l.missing ≡ l.fn.most;
  reads : (g.R.Source.state l.reader).reads ≤ (g.R.Source.state l.initial.reader).reads + length l.bytes.items;
  empty : (g.R.Source.state l.reader).empty ≡ (g.R.Source.state l.initial.reader).empty;
  asked : (g.R.Source.state l.reader).asked ≤ max (g.R.Source.state l.initial.reader).asked 65536;
  faults : NoneFailed (g.R.Source.state l.initial.reader).faults (g.R.Source.state l.reader).faults;
}

abbrev pub decreases-loop-missing : goal.decreases-loop-missing
decreases-loop-missing g l = l.missing
