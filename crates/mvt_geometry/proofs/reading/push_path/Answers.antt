use Rattle.std.proofs.Common.{arith, ◌≤◌, length}
use Rattle.mvt_geometry.proofs.BuildLemmas.{pushes}
use Rattle.mvt_geometry.proofs.reading.push_path.Goals as goal

pub loop-rest-preserved : goal.loop-rest-preserved
loop-rest-preserved c =
    let l = c.loop-rest in
    let two : 2 ≤ length l.rest.now = omega (arith, c.in-len2-up.len_at_least) in
    let items = c.in_ok-push.ensures.items in
    rw items (pushes l.invariant two _ c.moved_by-cursor.ensures)
