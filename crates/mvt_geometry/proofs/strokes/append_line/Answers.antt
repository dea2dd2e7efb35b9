use Rattle.std.proofs.Common.{arith, map}
use Rattle.std.proofs.lemmas.Result.{on_ok_weaker}
use Rattle.mvt_geometry.proofs.ValidLemmas.{line_of, stroke_of}
use Rattle.mvt_geometry.proofs.strokes.append_line.Goals as goal

pub returns-clause-valid : goal.returns-clause-valid
returns-clause-valid g c =
    on_ok_weaker c.append_stroke.result (λ h. stroke_of 2 c.args.from (map g.P.Position.point_of c.args.line.now) h)
    c.append_stroke.ensures.valid

pub returns-clause-invalid : goal.returns-clause-invalid
returns-clause-invalid g c = λ is h.
    c.append_stroke.ensures.invalid is (line_of 2 c.args.from (map g.P.Position.point_of c.args.line.now) (omega arith) h.0 h.1)
