use Rattle.std.proofs.Common.{◌≡◌, ◌≤◌, ◌*◌, ◌^◌, map, take}
use Rattle.std.specs.Int.RustNames.{unsigned_abs}
use Rattle.mvt_geometry.specs.Inner.Judging.{edges}
use Rattle.mvt_geometry.proofs.area.area_of.Given as goal
use Rattle.mvt_geometry.specs.Shape.{last_of}

abbrev pub invariant-loop-position : goal.invariant-loop-position
invariant-loop-position g l =
    let done = map g.P.Position.point_of (take l.position-index l.ring) in
    (l.sum ≡ edges l.initial.before done) × (l.before ≡ last_of l.initial.before done)
    × (unsigned_abs l.sum ≤ l.position-index * 2 ^ 63)
