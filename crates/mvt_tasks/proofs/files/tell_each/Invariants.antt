use Rattle.std.proofs.Common.{◌≡◌, [], map, take, string_bytes}
use Rattle.mvt_base.specs.declared.TheConstants.{LIMIT}
use Rattle.mvt_io.specs.States.{NoneFailed}
use Rattle.mvt_tasks.specs.Checks.{ReportsFiles, SaysOf, run_state}
use Rattle.mvt_tasks.specs.Visits.{OneAtATime}
use Rattle.mvt_tasks.proofs.files.tell_each.Given as goal

abbrev pub invariant-loop-name : goal.invariant-loop-name
invariant-loop-name g l = record {
  said : ReportsFiles (SaysOf LIMIT l.task) (g.F.Folder.holds l.initial.folder) (map string_bytes (take l.name-index l.names))
      (run_state (g.F.Folder.visits l.initial.folder) (g.W.Sink.state l.initial.writer) (g.E.Sink.state l.initial.errors))
      (run_state (g.F.Folder.visits l.folder) (g.W.Sink.state l.writer) (g.E.Sink.state l.errors)) [] l.tally;
  unflushed : (g.W.Sink.state l.writer).flushes ≡ (g.W.Sink.state l.initial.writer).flushes;
  sound : NoneFailed (g.W.Sink.state l.initial.writer).faults (g.W.Sink.state l.writer).faults;
  one : OneAtATime (g.F.Folder.open_files l.initial.folder) (g.F.Folder.open_files l.folder);
  same : g.F.Folder.holds l.folder ≡ g.F.Folder.holds l.initial.folder;
}
