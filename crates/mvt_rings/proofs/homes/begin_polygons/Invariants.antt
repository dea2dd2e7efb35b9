use Rattle.std.proofs.Common.{◌≡◌, drop, map}
use Rattle.mvt_rings.specs.Homes.{begun_after}
use Rattle.mvt_rings.proofs.homes.begin_polygons.Given as goal

abbrev pub invariant-loop-ring : goal.invariant-loop-ring
invariant-loop-ring l =
    begun_after l.homes (map (λ v. v.items) l.polygons.items) (drop l.ring-index l.rings)
    ≡ begun_after l.homes (map (λ v. v.items) l.initial.polygons.items) l.rings
