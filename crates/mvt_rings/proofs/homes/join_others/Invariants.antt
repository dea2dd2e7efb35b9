use Rattle.std.proofs.Common.{◌≡◌, drop, map}
use Rattle.mvt_rings.specs.Homes.{joined}
use Rattle.mvt_rings.proofs.homes.join_others.Given as goal

abbrev pub invariant-loop-ring : goal.invariant-loop-ring
invariant-loop-ring l =
    joined l.homes (map (λ v. v.items) l.polygons.items) (drop l.ring-index l.rings)
    ≡ joined l.homes (map (λ v. v.items) l.initial.polygons.items) l.rings
