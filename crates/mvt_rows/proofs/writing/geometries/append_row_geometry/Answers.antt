use Rattle.std.proofs.Common.{◌++◌, ap, ◌∙◌}
use Rattle.mvt_geometry.specs.declared.shape.Geometry.TheVariants.{Unknown}
use Rattle.mvt_rows.specs.Lent.{table_of}
use Rattle.mvt_rows.specs.TileRows.{geometry_of}
use Rattle.mvt_rows.proofs.DrawingLemmas.{drawn_as, integers_alone}
use Rattle.mvt_rows.proofs.writing.geometries.append_row_geometry.Goals as goal

pub returns-then-row-eq0-clause-drawn : goal.returns-then-row-eq0-clause-drawn
returns-then-row-eq0-clause-drawn c =
    let t = table_of c.args.rows.now in
    let row = c.args.row.now in
    let found = c.in_ok-part.field-0.now in
    drawn_as (geometry_of t row) (Unknown found) c.append_integers.new.list
    (integers_alone t row found c.if-row-eq0.true c.in_ok-part.ensures.part) c.append_integers.ensures.valid
    (c.in_ok-append_integers.ensures.drawn ∙ ap (λ l. l ++ found) c.clear.ensures)
