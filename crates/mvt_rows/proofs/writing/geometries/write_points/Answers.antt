use Rattle.std.proofs.Common.{arith, ◌≡◌, ◌++◌, Err, ap, length, map, ◌∙◌}
use Rattle.mvt_geometry.specs.declared.shape.Geometry.TheVariants.{Points}
use Rattle.mvt_geometry.specs.Drawing.{drawn}
use Rattle.mvt_rows.specs.declared.rows.PartRow.{PartRow}
use Rattle.mvt_rows.specs.TileRows.{point_of, points_of}
use Rattle.mvt_rows.proofs.DrawingLemmas.{drawn_as, not_valid, points_alone}
use Rattle.mvt_rows.proofs.writing.geometries.write_points.Goals as goal

abbrev no_row : PartRow
no_row = record { exterior = 0; points = record { start = 0; len = 0 } }

pub returns-in-Ok-clause-drawn : goal.returns-in-Ok-clause-drawn
returns-in-Ok-clause-drawn c =
    let one : length c.args.rows.now ≡ 1 = omega arith in
    let found = c.in_ok-points.points.now in
    drawn_as (points_of c.args.points.now c.args.rows.now) (Points (map point_of found)) c.append_points.new.list
    (points_alone c.args.points.now c.args.rows.now no_row found one c.in_ok-points.ensures.part) c.in-Ok.ensures.valid
    (c.in-Ok.ensures.drawn ∙ ap (λ l. l ++ drawn (Points (map point_of found))) c.requires)

pub returns-in-Err-Invalid-clause-drawn : goal.returns-in-Err-Invalid-clause-drawn
returns-in-Err-Invalid-clause-drawn c =
    let one : length c.args.rows.now ≡ 1 = omega arith in
    let found = c.in_ok-points.points.now in
    not_valid (points_of c.args.points.now c.args.rows.now) (Points (map point_of found)) c.refused_points.result
    (points_alone c.args.points.now c.args.rows.now no_row found one c.in_ok-points.ensures.part)
    (c.in-Err-Invalid.ensures.invalid (ap Err c.in-Err-Invalid.field-0-is)) c.refused_points.ensures
