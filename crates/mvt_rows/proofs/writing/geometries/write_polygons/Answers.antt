use Rattle.std.proofs.Common.{arith, ◌≡◌, ◌+◌, [], ◌∷◌, ◌++◌, Some, ap, get_or, length, length-append, map, subst, sym, ◌∙◌}
use Rattle.std.proofs.lemmas.List.{take_all}
use Rattle.mvt_rows.specs.declared.rows.PartRow.{PartRow}
use Rattle.mvt_rows.specs.Drawing.{AreJudged, HasBegun}
use Rattle.mvt_rows.specs.TileRows.{point_of, steps, with_ring_row}
use Rattle.mvt_rows.specs.Undrawn.{a_ring, strokes_of}
use Rattle.mvt_rows.proofs.DrawingLemmas.{line_is, no_line, no_polygons, polygons_drawn, polygons_not_drawn, row_follows, row_stops, row_without}
use Rattle.mvt_rows.proofs.EachLemmas.{steps_more, steps_stop}
use Rattle.mvt_rows.proofs.TileLemmas.{fails_in}
use Rattle.mvt_rows.proofs.writing.geometries.write_polygons.Goals as goal

abbrev no_row : PartRow
no_row = record { exterior = 0; points = record { start = 0; len = 0 } }

pub returns-in_err-ring-clause-none : goal.returns-in_err-ring-clause-none
returns-in_err-ring-clause-none c =
    let l = c.loop-index in
    let row = get_or c.args.rows.now l.index no_row in
    fails_in c.from_residual.result _ _ _ c.from_residual.ensures.1 c.in_err-ring.ensures.none
    (λ none. steps_stop (with_ring_row c.args.points.now) [] c.args.rows.now l.index no_row l.invariant.polygons l.invariant.made
    c.loop-index-test.true
    (row_without c.args.points.now l.invariant.polygons row (no_line c.args.points.now row none)))

pub returns-in_default-clause-none : goal.returns-in_default-clause-none
returns-in_default-clause-none c =
    let l = c.loop-index in
    let row = get_or c.args.rows.now l.index no_row in
    let line = line_is c.args.points.now row c.in_ok-ring.ring.now c.in_ok-ring.ensures.part in
    steps_stop (with_ring_row c.args.points.now) [] c.args.rows.now l.index no_row l.invariant.polygons l.invariant.made
    c.loop-index-test.true
    (row_stops c.args.points.now l.invariant.polygons row l.begun (map point_of c.in_ok-ring.ring.now) l.invariant.begun line
    (sym c.role_of.ensures ∙ c.in_default.is))

pub loop-index-preserved : goal.loop-index-preserved
loop-index-preserved c =
    let l = c.loop-index in
    let row = get_or c.args.rows.now l.index no_row in
    let ring = map point_of c.in_ok-ring.ring.now in
    let line = line_is c.args.points.now row c.in_ok-ring.ring.now c.in_ok-ring.ensures.part in
    let (next, made, follows, some) =
    row_follows c.args.points.now l.invariant.polygons row l.begun c.in-Some.role ring l.invariant.begun
    line
    (sym c.role_of.ensures ∙ c.in-Some.is) in
    let parts = strokes_of l.invariant.polygons in
    let longer = length-append parts (a_ring c.in-Some.role ring ∷ []) in
    let count : length (parts ++ a_ring c.in-Some.role ring ∷ []) ≡ l.index + 1 = omega (arith, longer, l.invariant.count) in
    record {
      polygons = next;
      made = steps_more (with_ring_row c.args.points.now) [] c.args.rows.now l.index no_row l.invariant.polygons next l.invariant.made
          c.loop-index-test.true made;
      begun = some;
      drawn = c.in_ok-cursor.ensures.drawn l.invariant.polygons next follows l.invariant.drawn;
      count = ap length follows.parts ∙ count;
      judged = subst (λ parts. AreJudged parts c.in_ok-cursor.cursor) (sym follows.parts)
          (c.in_ok-cursor.ensures.judged parts l.invariant.count l.invariant.judged);
    }

pub returns-then-not-begun-clause-drawn : goal.returns-then-not-begun-clause-drawn
returns-then-not-begun-clause-drawn c =
    let l = c.loop-index in
    let f = with_ring_row c.args.points.now in
    let made : steps f [] c.args.rows.now ≡ Some l.invariant.polygons =
    subst (λ rows. steps f [] rows ≡ Some l.invariant.polygons) (take_all l.index c.args.rows.now c.loop-index-test.false)
    l.invariant.made in
    no_polygons (steps f [] c.args.rows.now) l.invariant.polygons c.of_part.result made
    (subst (λ b. HasBegun b l.invariant.polygons) c.if-not-begun.true l.invariant.begun) c.of_part.ensures

pub returns-in-Ok-clause-drawn : goal.returns-in-Ok-clause-drawn
returns-in-Ok-clause-drawn c =
    let l = c.loop-index in
    let f = with_ring_row c.args.points.now in
    let made : steps f [] c.args.rows.now ≡ Some l.invariant.polygons =
    subst (λ rows. steps f [] rows ≡ Some l.invariant.polygons) (take_all l.index c.args.rows.now c.loop-index-test.false)
    l.invariant.made in
    polygons_drawn (steps f [] c.args.rows.now) l.invariant.polygons l.cursor _ l.integers made
    (subst (λ b. HasBegun b l.invariant.polygons) c.if-not-begun.false l.invariant.begun) c.in-Ok.is l.invariant.drawn

pub returns-in-Err-clause-drawn : goal.returns-in-Err-clause-drawn
returns-in-Err-clause-drawn c =
    let l = c.loop-index in
    let f = with_ring_row c.args.points.now in
    let made : steps f [] c.args.rows.now ≡ Some l.invariant.polygons =
    subst (λ rows. steps f [] rows ≡ Some l.invariant.polygons) (take_all l.index c.args.rows.now c.loop-index-test.false)
    l.invariant.made in
    polygons_not_drawn (steps f [] c.args.rows.now) l.invariant.polygons l.cursor c.in-Err.undrawn l.integers made
    (subst (λ b. HasBegun b l.invariant.polygons) c.if-not-begun.false l.invariant.begun) c.in-Err.is l.invariant.drawn
    l.invariant.judged
