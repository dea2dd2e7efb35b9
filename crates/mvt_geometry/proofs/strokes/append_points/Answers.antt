use Rattle.std.proofs.Common.{arith, ◌<◌, length, map}
use Rattle.std.proofs.lemmas.Grind.{common_steps}
use Rattle.std.proofs.lemmas.List.{length-map}
use Rattle.mvt_geometry.specs.Shape.{origin}
use Rattle.mvt_geometry.proofs.PenLemmas.{same_refusal}
use Rattle.mvt_geometry.proofs.ValidLemmas.{points_path, parts_of_points}
use Rattle.mvt_geometry.proofs.strokes.append_points.Goals as goal

pub returns-in_err-append_path-clause-invalid : goal.returns-in_err-append_path-clause-invalid
returns-in_err-append_path-clause-invalid g c = λ is h.
    c.in_err-append_path.ensures.invalid
    (same_refusal c.from_residual-in_err-append_path.result _ _ c.from_residual-in_err-append_path.ensures.1 is)
    (points_path origin (map g.P.Position.point_of c.args.points.now) h.2 h.3)

pub returns-clause-valid : goal.returns-clause-valid
returns-clause-valid g c =
    let long = length-map c.args.points.now g.P.Position.point_of in
    let some : 0 < length c.args.points.now = grind (arith, common_steps) in
    let path = parts_of_points origin (map g.P.Position.point_of c.args.points.now) c.in_ok-append_path.ensures.valid in
    (omega arith, omega arith, path.0, path.1)
