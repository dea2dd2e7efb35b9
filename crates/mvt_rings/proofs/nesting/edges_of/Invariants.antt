use Rattle.std.proofs.Common.{◌≡◌, ◌++◌, drop}
use Rattle.mvt_rings.specs.Nesting.{edges_from}
use Rattle.mvt_rings.proofs.nesting.edges_of.Given as goal

abbrev pub invariant-loop-to : goal.invariant-loop-to
invariant-loop-to l = l.edges.items ++ edges_from l.from (drop l.to-index l.ring) ≡ edges_from l.initial.from l.ring
