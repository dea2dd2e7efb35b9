use Rattle.std.proofs.Common.{rules, arith, ◌≡◌, ◌<◌, [], refl, sym}
use Rattle.mvt_geometry.specs.declared.shape.Geometry.TheVariants.{Points}
use Rattle.mvt_geometry.specs.Drawing.{drawn}
use Rattle.mvt_geometry.specs.Visiting.{plain}
use Rattle.mvt_geometry.proofs.ToldLemmas.{points_told}
use Rattle.mvt_geometry.proofs.packed.tell_points.Goals as goal

pub returns-in_default-clause-told : goal.returns-in_default-clause-told
returns-in_default-clause-told g c = ([], [], g.met.V.GeometryVisitor.begins c.args.visitor.now)

pub returns-then-count-eq0-clause-told : goal.returns-then-count-eq0-clause-told
returns-then-count-eq0-clause-told g c = ([], [], g.met.V.GeometryVisitor.begins c.args.visitor.now)

pub returns-in_default-2-clause-told : goal.returns-in_default-2-clause-told
returns-in_default-2-clause-told g c =
    let start = c.args.visitor.now in
    let path = c.in_ok-path.ensures.told in
    ([], path.0, path.1.told start [] [] (g.met.V.GeometryVisitor.begins start))

pub returns-then-not-is_done-clause-told : goal.returns-then-not-is_done-clause-told
returns-then-not-is_done-clause-told g c =
    let start = c.args.visitor.now in
    let path = c.in_ok-path.ensures.told in
    ([], path.0, path.1.told start [] [] (g.met.V.GeometryVisitor.begins start))

pub returns-clause-drawn : goal.returns-clause-drawn
returns-clause-drawn g c = λ yes.
    let start = c.args.visitor.now in
    let path = rw c.in-Some-2.is at c.in_ok-path.ensures.path in
    let points = path.0 in
    let some : 0 < c.in-Some.count = omega (arith, c.if-count-eq0.false) in
    let none : g.I.Integers.size c.in-Some-2.path.after ≡ 0 = search rules in
    let done = g.met.I.Integers.none c.in-Some-2.path.after none in
    let told = points_told some c.in-Some.ensures.few c.in-Some.ensures.spelled path.1 done in
    let begun = path.2.told start [] [] (g.met.V.GeometryVisitor.begins start) in (
      drawn (Points points),
      told.0,
      Points points,
      record { same_kind = refl; valid = told.1; spelled = refl },
      c.in_ok-end_part.ensures start [] (plain points) begun (sym path.1.long, refl, refl),
    )
