use Rattle.std.proofs.Common.{◌++◌, [], ◌∷◌, sym, ap, ◌∙◌}
use Rattle.mvt_geometry.specs.Shape.{origin, rings_of}
use Rattle.mvt_geometry.specs.Drawing.{drawn, strokes}
use Rattle.mvt_geometry.proofs.writing.append_geometry.Goals as goal

pub returns-in_ok-put_lines-in-Lines-clause-integers : goal.returns-in_ok-put_lines-in-Lines-clause-integers
returns-in_ok-put_lines-in-Lines-clause-integers g c =
    let old = (g.N.NumberList.numbers c.args.integers.now) in
    c.in_ok-put_lines-in-Lines.ensures.integers ∙ ap (λ l. old ++ strokes [] origin l) c.as_slice-in-Lines.ensures
    ∙ ap (λ g. old ++ drawn g) (sym c.in-Lines.is)

pub returns-in_ok-put_polygons-in-Polygons-clause-integers : goal.returns-in_ok-put_polygons-in-Polygons-clause-integers
returns-in_ok-put_polygons-in-Polygons-clause-integers g c =
    let old = (g.N.NumberList.numbers c.args.integers.now) in
    c.in_ok-put_polygons-in-Polygons.ensures.integers
    ∙ ap (λ p. old ++ strokes (15 ∷ []) origin (rings_of p)) c.as_slice-in-Polygons.ensures
    ∙ ap (λ g. old ++ drawn g) (sym c.in-Polygons.is)
