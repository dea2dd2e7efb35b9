use Rattle.std.proofs.Common.{rules, ◌≡◌, to_z, of_z, w32}
use Rattle.mvt_rows.proofs.TableLemmas.{point_told}
use Rattle.mvt_rows.proofs.table.TableGeometryVisitor.visit_point.Goals as goal

pub returns : goal.returns
returns c = λ start parts begun is.
    let x : to_z w32 (of_z w32 c.args.point.x) ≡ c.args.point.x = search rules in
    let y : to_z w32 (of_z w32 c.args.point.y) ≡ c.args.point.y = search rules in
    rw (c.in_ok-push.ensures.items, x, y) (point_told start parts begun c.args.point _ (rw (← c.self.view_is) at is))
