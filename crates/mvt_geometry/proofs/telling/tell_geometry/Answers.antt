use Rattle.std.proofs.Common.{[], OnOk, refl, sym, ap, subst, ◌∙◌}
use Rattle.mvt_geometry.specs.declared.shape.Geometry.TheVariants.{Points}
use Rattle.mvt_geometry.specs.Visiting.{HasDrawn, plain}
use Rattle.mvt_geometry.proofs.telling.tell_geometry.Goals as goal

pub returns-in-Points : goal.returns-in-Points
returns-in-Points g c =
    subst (λ x. OnOk c.tell_part.result (HasDrawn g.V.GeometryVisitor.has_parts g.V.GeometryVisitor.has_integers c.args.visitor.now
    c.tell_part.new.visitor x))
    (ap Points c.as_slice-in-Points.ensures ∙ sym c.in-Points.is)
    (c.tell_part.ensures c.args.visitor.now [] (plain c.as_slice-in-Points.result.now) refl (refl, refl, refl)
    (g.met.V.GeometryVisitor.begins c.args.visitor.now))
