use Rattle.std.proofs.Common.{Err, ap, map, subst}
use Rattle.mvt_rows.specs.Drawing.{AreJudged, DrawnLines}
use Rattle.mvt_rows.specs.TileRows.{point_of}
use Rattle.mvt_rows.specs.Undrawn.{a_line}
use Rattle.mvt_rows.proofs.DrawingLemmas.{line_drawn, line_not_drawn, line_passed}
use Rattle.mvt_rows.proofs.UndrawnLemmas.{judged_drawn, judged_passed, judged_refused, line_clear}
use Rattle.mvt_rows.proofs.writing.geometries.write_line.Goals as goal

pub returns-in-Err-clause-drawn : goal.returns-in-Err-clause-drawn
returns-in-Err-clause-drawn c = λ lines h.
    line_passed lines (map point_of c.args.line.now) c.in-Err.undrawn c.args.integers.now c.args.integers.now
    (subst (λ cursor. DrawnLines lines cursor c.args.integers.now) c.in-Err.is h)

pub returns-in-Err-clause-judged : goal.returns-in-Err-clause-judged
returns-in-Err-clause-judged c = λ parts count h.
    judged_passed parts (a_line (map point_of c.args.line.now)) c.in-Err.undrawn (subst (AreJudged parts) c.in-Err.is h)

pub returns-in-Ok-append_line-clause-drawn : goal.returns-in-Ok-append_line-clause-drawn
returns-in-Ok-append_line-clause-drawn c = λ lines h.
    line_drawn lines (map point_of c.args.line.now) c.in-Ok.from _ c.args.integers.now _
    (subst (λ cursor. DrawnLines lines cursor c.args.integers.now) c.in-Ok.is h) c.in-Ok-append_line.ensures.valid
    c.in-Ok-append_line.ensures.drawn
    c.in-Ok-append_line.ensures.last

pub returns-in-Ok-append_line-clause-judged : goal.returns-in-Ok-append_line-clause-judged
returns-in-Ok-append_line-clause-judged c = λ parts count h.
    let line = map point_of c.args.line.now in
    judged_drawn parts (a_line line) c.args.index c.in-Ok.from c.in-Ok-append_line.last count (subst (AreJudged parts) c.in-Ok.is h)
    (line_clear c.args.index c.in-Ok.from line c.in-Ok-append_line.ensures.valid) c.in-Ok-append_line.ensures.last

pub returns-in-Err-Invalid-clause-drawn : goal.returns-in-Err-Invalid-clause-drawn
returns-in-Err-Invalid-clause-drawn c = λ lines h.
    line_not_drawn lines (map point_of c.args.line.now) c.in-Ok.from c.refused_line.result c.args.integers.now c.args.integers.now
    (subst (λ cursor. DrawnLines lines cursor c.args.integers.now) c.in-Ok.is h)
    (c.in-Err-Invalid.ensures.invalid (ap Err c.in-Err-Invalid.field-0-is))

pub returns-in-Err-Invalid-clause-judged : goal.returns-in-Err-Invalid-clause-judged
returns-in-Err-Invalid-clause-judged c = λ parts count h.
    judged_refused parts (a_line (map point_of c.args.line.now)) c.args.index c.in-Ok.from c.refused_line.result count
    (subst (AreJudged parts) c.in-Ok.is h) c.refused_line.ensures
