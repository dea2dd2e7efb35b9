use Rattle.std.proofs.Common.{rules, arith, ◌≡◌, ◌<◌, true, false, length, get_or, sym}
use Rattle.std.specs.List.{list_all}
use Rattle.mvt_geometry.specs.Shape.{origin}
use Rattle.mvt_rings.specs.Nesting.{edges_of}
use Rattle.mvt_rings.specs.Clear.{is_in, IsAway}
use Rattle.mvt_rings.proofs.PlaceLemmas.{away_first}
use Rattle.mvt_rings.proofs.rings.place_away.Goals as goal

pub returns-in-Some-true : goal.returns-in-Some-true
returns-in-Some-true c =
    let some : 0 < length c.args.ring.now.points = grind arith in
    let are : list_all (is_in c.args.ring.now.bounds) c.args.ring.now.points ≡ true = search rules in
    let away : IsAway c.args.ring.now.bounds (get_or c.args.ring.now.points 0 origin) true (edges_of c.args.outer.now.points) = search rules in
    sym (away_first c.args.outer.now c.args.ring.now true some are away)

pub returns-in-Some-false : goal.returns-in-Some-false
returns-in-Some-false c =
    let some : 0 < length c.args.ring.now.points = grind arith in
    let are : list_all (is_in c.args.ring.now.bounds) c.args.ring.now.points ≡ true = search rules in
    let away : IsAway c.args.ring.now.bounds (get_or c.args.ring.now.points 0 origin) false (edges_of c.args.outer.now.points) = search rules in
    sym (away_first c.args.outer.now c.args.ring.now false some are away)
