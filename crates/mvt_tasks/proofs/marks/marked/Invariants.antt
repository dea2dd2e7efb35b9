use Rattle.std.proofs.Common.{◌≡◌, true, take}
use Rattle.mvt_tasks.specs.Checks.{marked}
use Rattle.mvt_tasks.proofs.MarkLemmas.{starts_line}
use Rattle.mvt_tasks.proofs.marks.marked.Given as goal

abbrev pub invariant-loop-byte : goal.invariant-loop-byte
invariant-loop-byte l =
    (l.bytes.items ≡ marked l.mark true (take l.byte-index l.text)) × (l.is_start ≡ starts_line true (take l.byte-index l.text))
