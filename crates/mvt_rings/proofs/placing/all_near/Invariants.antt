use Rattle.std.proofs.Common.{◌≡◌, drop}
use Rattle.mvt_rings.specs.Placing.{all_near}
use Rattle.mvt_rings.proofs.placing.all_near.Given as goal

abbrev pub invariant-loop-edge : goal.invariant-loop-edge
invariant-loop-edge l = all_near l.inside l.edges (drop l.edge-index l.marks) ≡ all_near l.inside l.edges l.marks
