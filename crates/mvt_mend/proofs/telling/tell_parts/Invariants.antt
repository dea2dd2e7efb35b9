use Rattle.std.proofs.Common.{◌≡◌, ◌≤◌, ◌++◌, drop}
use Rattle.mvt_mend.specs.Changes.{told_from}
use Rattle.mvt_mend.proofs.telling.tell_parts.Given as goal

abbrev pub invariant-loop-index : goal.invariant-loop-index
invariant-loop-index l = record {
  few : l.before ≤ l.index;
  same : l.changes.items ++ told_from l.layer l.feature l.fates l.index l.before (drop l.index l.parts)
      ≡ l.initial.changes.items ++ told_from l.layer l.feature l.fates 0 0 l.parts;
}
