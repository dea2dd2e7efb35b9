use Rattle.std.proofs.Common.{◌≡◌, ◌++◌, map}
use Rattle.std.specs.List.{filter, flat_map}
use Rattle.std.specs.Vec.Iter.{into_iter_items}
use Rattle.mvt_rings.specs.Homes.{has_ring}
use Rattle.mvt_rings.proofs.homes.listed.Given as goal

abbrev pub invariant-loop-polygon : goal.invariant-loop-polygon
invariant-loop-polygon l =
    l.kept.items ++ flat_map (λ p. filter has_ring p) (map (λ v. v.items) (into_iter_items l.polygon-iterator))
    ≡ flat_map (λ p. filter has_ring p) (map (λ v. v.items) l.fn.polygons.items)
