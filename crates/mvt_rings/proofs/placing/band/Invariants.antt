use Rattle.std.proofs.Common.{◌≡◌, ◌++◌, drop}
use Rattle.std.specs.List.{filter}
use Rattle.mvt_rings.specs.Nesting.{edges_from}
use Rattle.mvt_rings.specs.Placing.{is_level_with}
use Rattle.mvt_rings.proofs.placing.band.Given as goal

abbrev pub invariant-loop-to : goal.invariant-loop-to
invariant-loop-to l =
    l.edges.items ++ filter (is_level_with l.bounds) (edges_from l.from (drop l.to-index l.ring))
    ≡ filter (is_level_with l.bounds) (edges_from l.initial.from l.ring)
