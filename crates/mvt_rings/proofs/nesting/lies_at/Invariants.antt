use Rattle.std.proofs.Common.{◌≡◌, drop}
use Rattle.mvt_rings.specs.Nesting.{lies_after}
use Rattle.mvt_rings.proofs.nesting.lies_at.Given as goal

abbrev pub invariant-loop-edge : goal.invariant-loop-edge
invariant-loop-edge l = lies_after 2 l.spot l.odd (drop l.edge-index l.edges) ≡ lies_after 2 l.spot l.initial.odd l.edges
