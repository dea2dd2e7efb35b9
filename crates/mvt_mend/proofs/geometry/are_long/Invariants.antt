use Rattle.std.proofs.Common.{drop}
use Rattle.std.specs.List.{AllByRecursion}
use Rattle.mvt_mend.specs.Sound.{IsLong}
use Rattle.mvt_mend.proofs.geometry.are_long.Given as goal

abbrev pub invariant-loop-part : goal.invariant-loop-part
invariant-loop-part l = AllByRecursion IsLong (drop l.part-index l.kept) → AllByRecursion IsLong l.kept
