use Rattle.std.proofs.Common.{subst}
use Rattle.mvt_geometry.proofs.GeometryLaws.{one_geometry}
use Rattle.mvt_geometry.specs.Visiting.{HasDrawn}
use Rattle.mvt_message.proofs.feature_writing.tell_judged.Goals as goal

pub returns-in-Ok : goal.returns-in-Ok
returns-in-Ok g c = λ h draws.
    let (geometry, drawn, told) = c.in-Ok.ensures.drawn in
    subst (λ i. HasDrawn g.V.GeometryVisitor.has_parts g.V.GeometryVisitor.has_integers c.args.visitor.now c.draw_geometry.new.visitor i)
    (one_geometry c.args.kind c.args.integers.now geometry h drawn draws) told
