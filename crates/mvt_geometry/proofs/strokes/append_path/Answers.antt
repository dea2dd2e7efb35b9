use Rattle.std.proofs.Common.{◌+◌, drop, map}
use Rattle.mvt_geometry.proofs.PenLemmas.{points_at, path_more, last_more, path_behind, path_before}
use Rattle.mvt_geometry.proofs.strokes.append_path.Goals as goal

pub loop-position-preserved : goal.loop-position-preserved
loop-position-preserved g c =
    let l = c.loop-position in
    let f = g.P.Position.point_of in
    let p = c.point-point.result in
    let rest = map f (drop (l.position-index + 1) c.args.points.now) in
    let e = points_at f c.args.points.now l.position-index c.position-item.result p c.loop-position-test.true c.position-item.is
    c.point-point.ensures in
    let step = c.is_step.ensures.0 c.if-not-is_step.false in
    record {
      drawn = path_more _ _ _ l.cursor p _ rest e c.in_ok-append_step.ensures l.invariant.drawn;
      last = last_more l.cursor p _ _ rest e l.invariant.last;
      forth = λ path. (path_behind c.args.is_line l.cursor p _ rest e (l.invariant.forth path)).1;
      back = λ path. l.invariant.back (path_before c.args.is_line l.cursor p _ rest e step path);
    }
