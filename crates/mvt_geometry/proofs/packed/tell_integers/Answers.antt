use Rattle.std.proofs.Common.{[]}
use Rattle.mvt_geometry.proofs.packed.tell_integers.Goals as goal

pub returns-then-is_done-clause-told : goal.returns-then-is_done-clause-told
returns-then-is_done-clause-told g c = ([], [], g.met.V.GeometryVisitor.begins c.args.visitor.now)

pub returns-in-Unknown-clause-told : goal.returns-in-Unknown-clause-told
returns-in-Unknown-clause-told g c = ([], [], g.met.V.GeometryVisitor.begins c.args.visitor.now)
