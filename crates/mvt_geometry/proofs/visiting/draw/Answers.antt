use Rattle.std.proofs.Common.{subst}
use Rattle.mvt_geometry.specs.Visiting.{HasDrawn}
use Rattle.mvt_geometry.specs.Drawing.{Draws}
use Rattle.mvt_geometry.proofs.LawLemmas.{one_geometry_lem}
use Rattle.mvt_geometry.proofs.visiting.draw.Goals as goal

pub returns-then-branch : goal.returns-then-branch
returns-then-branch g c = λ geometry draws.
    let (ints, are, told, by, has) = c.in_ok-tell_integers.ensures.drawn c.if-branch.true in
    let same = one_geometry_lem c.args.kind ints told geometry by (subst (λ ns. Draws c.args.kind ns geometry) are draws) in
    subst (HasDrawn g.V.GeometryVisitor.has_parts g.V.GeometryVisitor.has_integers c.args.visitor.now c.tell_integers.new.visitor) same has
