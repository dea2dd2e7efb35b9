use Rattle.std.proofs.Common.{Err, ap, map, subst}
use Rattle.mvt_rows.specs.Drawing.{AreJudged, DrawnPolygons}
use Rattle.mvt_rows.specs.TileRows.{point_of}
use Rattle.mvt_rows.specs.Undrawn.{a_ring}
use Rattle.mvt_rows.proofs.DrawingLemmas.{ring_drawn, ring_not_drawn, ring_passed}
use Rattle.mvt_rows.proofs.UndrawnLemmas.{judged_drawn, judged_passed, judged_refused, ring_clear}
use Rattle.mvt_rows.proofs.writing.geometries.write_ring.Goals as goal

pub returns-in-Err-clause-drawn : goal.returns-in-Err-clause-drawn
returns-in-Err-clause-drawn c = λ polygons next follows h.
    ring_passed c.args.role polygons next (map point_of c.args.ring.now) c.in-Err.undrawn c.args.integers.now c.args.integers.now follows
    (subst (λ cursor. DrawnPolygons polygons cursor c.args.integers.now) c.in-Err.is h)

pub returns-in-Err-clause-judged : goal.returns-in-Err-clause-judged
returns-in-Err-clause-judged c = λ parts count h.
    judged_passed parts (a_ring c.args.role (map point_of c.args.ring.now)) c.in-Err.undrawn (subst (AreJudged parts) c.in-Err.is h)

pub returns-in-Ok-append_ring-clause-drawn : goal.returns-in-Ok-append_ring-clause-drawn
returns-in-Ok-append_ring-clause-drawn c = λ polygons next follows h.
    ring_drawn c.args.role polygons next (map point_of c.args.ring.now) c.in-Ok.from _ c.args.integers.now _ follows
    (subst (λ cursor. DrawnPolygons polygons cursor c.args.integers.now) c.in-Ok.is h) c.in-Ok-append_ring.ensures.area
    c.in-Ok-append_ring.ensures.valid
    c.in-Ok-append_ring.ensures.drawn c.in-Ok-append_ring.ensures.last

pub returns-in-Ok-append_ring-clause-judged : goal.returns-in-Ok-append_ring-clause-judged
returns-in-Ok-append_ring-clause-judged c = λ parts count h.
    let ring = map point_of c.args.ring.now in
    judged_drawn parts (a_ring c.args.role ring) c.args.index c.in-Ok.from c.in-Ok-append_ring.last count
    (subst (AreJudged parts) c.in-Ok.is h)
    (ring_clear c.args.index c.args.role c.in-Ok.from ring c.in-Ok-append_ring.ensures.area c.in-Ok-append_ring.ensures.valid)
    c.in-Ok-append_ring.ensures.last

pub returns-in-Err-Invalid-clause-drawn : goal.returns-in-Err-Invalid-clause-drawn
returns-in-Err-Invalid-clause-drawn c = λ polygons next follows h.
    ring_not_drawn c.args.role polygons next (map point_of c.args.ring.now) c.in-Ok.from c.refused_ring.result c.args.integers.now
    c.args.integers.now follows
    (subst (λ cursor. DrawnPolygons polygons cursor c.args.integers.now) c.in-Ok.is h)
    (c.in-Err-Invalid.ensures.invalid (ap Err c.in-Err-Invalid.field-0-is))

pub returns-in-Err-Invalid-clause-judged : goal.returns-in-Err-Invalid-clause-judged
returns-in-Err-Invalid-clause-judged c = λ parts count h.
    judged_refused parts (a_ring c.args.role (map point_of c.args.ring.now)) c.args.index c.in-Ok.from c.refused_ring.result count
    (subst (AreJudged parts) c.in-Ok.is h) c.refused_ring.ensures
