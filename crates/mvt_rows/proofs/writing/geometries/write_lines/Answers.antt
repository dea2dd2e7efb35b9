use Rattle.std.proofs.Common.{arith, ◌≡◌, ◌<◌, ◌++◌, [], ◌∷◌, Some, get_or, length, map, refl, subst, sym, ◌∙◌}
use Rattle.std.proofs.lemmas.Grind.{common_steps}
use Rattle.std.proofs.lemmas.List.{length-map, map-append, take_all}
use Rattle.mvt_rows.specs.declared.rows.PartRow.{PartRow}
use Rattle.mvt_rows.specs.Drawing.{AreJudged}
use Rattle.mvt_rows.specs.TileRows.{each, line_of, point_of}
use Rattle.mvt_rows.specs.Undrawn.{a_line}
use Rattle.mvt_rows.proofs.DrawingLemmas.{each_count, each_length, line_is, lines_drawn, lines_not_drawn, no_line, no_lines}
use Rattle.mvt_rows.proofs.EachLemmas.{each_more, each_stops}
use Rattle.mvt_rows.proofs.TileLemmas.{fails_in}
use Rattle.mvt_rows.proofs.writing.geometries.write_lines.Goals as goal

abbrev no_row : PartRow
no_row = record { exterior = 0; points = record { start = 0; len = 0 } }

pub returns-in_err-line-clause-none : goal.returns-in_err-line-clause-none
returns-in_err-line-clause-none c =
    let f = line_of c.args.points.now in
    fails_in c.from_residual.result _ _ _ c.from_residual.ensures.1 c.in_err-line.ensures.none
    (λ none. each_stops f c.args.rows.now c.loop-index.index no_row c.loop-index-test.true
    (no_line c.args.points.now (get_or c.args.rows.now c.loop-index.index no_row) none))

pub loop-index-preserved : goal.loop-index-preserved
loop-index-preserved c =
    let l = c.loop-index in
    let f = line_of c.args.points.now in
    let lines = l.invariant.lines in
    let line = map point_of c.in_ok-line.line.now in
    let is = line_is c.args.points.now (get_or c.args.rows.now l.index no_row) c.in_ok-line.line.now c.in_ok-line.ensures.part in
    let count = length-map lines a_line ∙ each_count f c.args.rows.now l.index lines c.loop-index-test.true l.invariant.made in
    record {
      lines = lines ++ line ∷ [];
      made = each_more f c.args.rows.now l.index no_row _ _ _ l.invariant.made c.loop-index-test.true is refl;
      drawn = c.in_ok-cursor.ensures.drawn lines l.invariant.drawn;
      judged = subst (λ parts. AreJudged parts c.in_ok-cursor.cursor) (sym (map-append a_line lines (line ∷ [])))
          (c.in_ok-cursor.ensures.judged (map a_line lines) count l.invariant.judged);
    }

pub returns-then-is_empty-clause-drawn : goal.returns-then-is_empty-clause-drawn
returns-then-is_empty-clause-drawn c =
    let l = c.loop-index in
    let f = line_of c.args.points.now in
    let made : each f c.args.rows.now ≡ Some l.invariant.lines =
    subst (λ rows. each f rows ≡ Some l.invariant.lines) (take_all l.index c.args.rows.now c.loop-index-test.false) l.invariant.made in
    let rows : length c.args.rows.now ≡ 0 = grind (arith, common_steps) in
    no_lines (each f c.args.rows.now) l.invariant.lines c.of_part.result made
    (sym (each_length f c.args.rows.now l.invariant.lines made) ∙ rows) c.of_part.ensures

pub returns-in-Ok-clause-drawn : goal.returns-in-Ok-clause-drawn
returns-in-Ok-clause-drawn c =
    let l = c.loop-index in
    let f = line_of c.args.points.now in
    let made : each f c.args.rows.now ≡ Some l.invariant.lines =
    subst (λ rows. each f rows ≡ Some l.invariant.lines) (take_all l.index c.args.rows.now c.loop-index-test.false) l.invariant.made in
    let rows : 0 < length c.args.rows.now = grind (arith, common_steps) in
    let some : 0 < length l.invariant.lines = omega (arith, rows, each_length f c.args.rows.now l.invariant.lines made) in
    lines_drawn (each f c.args.rows.now) l.invariant.lines l.cursor _ l.integers made some c.in-Ok.is l.invariant.drawn

pub returns-in-Err-clause-drawn : goal.returns-in-Err-clause-drawn
returns-in-Err-clause-drawn c =
    let l = c.loop-index in
    let f = line_of c.args.points.now in
    let made : each f c.args.rows.now ≡ Some l.invariant.lines =
    subst (λ rows. each f rows ≡ Some l.invariant.lines) (take_all l.index c.args.rows.now c.loop-index-test.false) l.invariant.made in
    let rows : 0 < length c.args.rows.now = grind (arith, common_steps) in
    let some : 0 < length l.invariant.lines = omega (arith, rows, each_length f c.args.rows.now l.invariant.lines made) in
    lines_not_drawn (each f c.args.rows.now) l.invariant.lines l.cursor c.in-Err.undrawn l.integers made some c.in-Err.is l.invariant.drawn
    l.invariant.judged
