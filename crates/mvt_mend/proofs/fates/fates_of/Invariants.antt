use Rattle.std.proofs.Common.{◌≡◌, drop}
use Rattle.mvt_mend.specs.Changes.{fates_after}
use Rattle.mvt_mend.proofs.fates.fates_of.Given as goal

abbrev pub invariant-loop-place : goal.invariant-loop-place
invariant-loop-place l = fates_after l.place l.fates.items (drop l.place l.kept) ≡ fates_after 0 l.initial.fates.items l.kept
