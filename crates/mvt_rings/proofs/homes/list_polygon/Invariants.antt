use Rattle.std.proofs.Common.{◌≡◌, ◌++◌}
use Rattle.std.specs.List.{filter}
use Rattle.std.specs.Vec.Iter.{into_iter_items}
use Rattle.mvt_rings.specs.Homes.{has_ring}
use Rattle.mvt_rings.proofs.homes.list_polygon.Given as goal

abbrev pub invariant-loop-ring : goal.invariant-loop-ring
invariant-loop-ring l =
    l.kept.items ++ filter has_ring (into_iter_items l.ring-iterator) ≡ l.initial.kept.items ++ filter has_ring l.fn.polygon.items
