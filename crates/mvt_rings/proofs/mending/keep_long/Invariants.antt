use Rattle.std.proofs.Common.{◌≡◌, ◌++◌, drop}
use Rattle.mvt_rings.specs.Mending.{kept_from}
use Rattle.mvt_rings.proofs.mending.keep_long.Given as goal

abbrev pub invariant-loop-index : goal.invariant-loop-index
invariant-loop-index l = l.kept.items ++ kept_from l.least l.index (drop l.index l.parts) ≡ kept_from l.least 0 l.parts
