use Rattle.std.proofs.Common.{◌≡◌, ◌++◌, drop}
use Rattle.mvt_rings.specs.Rings.{rings_from}
use Rattle.mvt_rings.proofs.rings.rings_of.Given as goal

abbrev pub invariant-loop-index : goal.invariant-loop-index
invariant-loop-index l = l.rings.items ++ rings_from l.index (drop l.index l.parts) ≡ rings_from 0 l.parts
