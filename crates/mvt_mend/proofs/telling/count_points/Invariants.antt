use Rattle.std.proofs.Common.{◌≡◌, drop}
use Rattle.mvt_mend.specs.Changes.{count_after}
use Rattle.mvt_mend.proofs.telling.count_points.Given as goal

abbrev pub invariant-loop-part : goal.invariant-loop-part
invariant-loop-part l = count_after l.count (drop l.part-index l.parts) ≡ count_after l.initial.count l.parts
