use Rattle.std.proofs.Common.{◌≡◌, ◌++◌, take}
use Rattle.mvt_geometry.proofs.writing.put_kept.Given as goal

abbrev pub invariant-loop-integer : goal.invariant-loop-integer
invariant-loop-integer g l = g.N.NumberList.numbers l.integers ≡ g.N.NumberList.numbers l.initial.integers ++ take l.integer-index l.kept
