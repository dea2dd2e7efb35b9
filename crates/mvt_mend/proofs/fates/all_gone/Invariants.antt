use Rattle.std.proofs.Common.{◌≡◌, ◌++◌, drop}
use Rattle.mvt_mend.specs.Changes.{all_gone}
use Rattle.mvt_mend.proofs.fates.all_gone.Given as goal

abbrev pub invariant-loop-part : goal.invariant-loop-part
invariant-loop-part l = l.fates.items ++ all_gone (drop l._part-index l.parts) ≡ all_gone l.parts
