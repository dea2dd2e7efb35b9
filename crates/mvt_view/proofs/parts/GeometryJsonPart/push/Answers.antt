use Rattle.std.proofs.Common.{◌∙◌, ap}
use Rattle.mvt_view.specs.JsonForms.{each, number_json, line_json, polygon_json, geometry_json}
use Rattle.serde_json.specs.Written.{compact_text}
use Rattle.mvt_view.proofs.JsonTexts.{named, lines_begins, points_begins, polygons_begins, unknown_begins}
use Rattle.mvt_view.proofs.parts.GeometryJsonPart.push.Goals as goal

pub returns-in-Unknown : goal.returns-in-Unknown
returns-in-Unknown c =
    named c.push_alone.result _ _ _ _ c.push_alone.ensures
    (ap (λ v. compact_text (geometry_json v)) c.in-Unknown.is ∙ unknown_begins (each number_json c.in-Unknown.integers))

pub returns-in-Points : goal.returns-in-Points
returns-in-Points c =
    named c.push_alone-in-Points.result _ _ _ _ c.push_alone-in-Points.ensures
    (ap (λ v. compact_text (geometry_json v)) c.in-Points.is ∙ points_begins (line_json c.in-Points.points))

pub returns-in-Lines : goal.returns-in-Lines
returns-in-Lines c =
    named c.push_alone-in-Lines.result _ _ _ _ c.push_alone-in-Lines.ensures
    (ap (λ v. compact_text (geometry_json v)) c.in-Lines.is ∙ lines_begins (each line_json c.in-Lines.lines))

pub returns-in-Polygons : goal.returns-in-Polygons
returns-in-Polygons c =
    named c.push_alone-in-Polygons.result _ _ _ _ c.push_alone-in-Polygons.ensures
    (ap (λ v. compact_text (geometry_json v)) c.in-Polygons.is ∙ polygons_begins (each polygon_json c.in-Polygons.polygons))
