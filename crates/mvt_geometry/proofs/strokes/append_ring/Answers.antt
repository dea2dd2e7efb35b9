use Rattle.std.proofs.Common.{arith, map}
use Rattle.mvt_geometry.proofs.PenLemmas.{same_refusal}
use Rattle.mvt_geometry.proofs.ValidLemmas.{line_of, stroke_of}
use Rattle.mvt_geometry.proofs.strokes.append_ring.Goals as goal

pub returns-in_err-last-clause-invalid : goal.returns-in_err-last-clause-invalid
returns-in_err-last-clause-invalid g c = λ is area h.
    c.in_err-last.ensures.invalid (same_refusal c.from_residual.result _ _ c.from_residual.ensures.1 is)
    (line_of 3 c.args.from (map g.P.Position.point_of c.args.ring.now) (omega arith) h.0 h.1)

pub returns-clause-valid : goal.returns-clause-valid
returns-clause-valid g c = stroke_of 3 c.args.from (map g.P.Position.point_of c.args.ring.now) c.in_ok-last.ensures.valid
