use Rattle.std.proofs.Common.{arith, ◌≤◌, length, sym, ◌∙◌}
use Rattle.mvt_mend.proofs.ReadingLemmas.{path_step}
use Rattle.mvt_mend.proofs.reading.read_path.Goals as goal

pub loop-rest-preserved : goal.loop-rest-preserved
loop-rest-preserved c =
    let l = c.loop-rest in
    let two : 2 ≤ length l.rest.now = omega arith in
    path_step l.points.items _ l.cursor c.in-Some.next l.rest.now _ _ two (sym c.step.ensures ∙ c.in-Some.is) c.in_ok-push.ensures.items
    c.split_at.ensures.back l.invariant
