use Rattle.std.proofs.Common.{rules, ◌≡◌, ◌-◌, length}
use Rattle.mvt_rows.specs.Tables.{truth_number}
use Rattle.mvt_rows.proofs.TableLemmas.{ends_count, part_told}
use Rattle.mvt_rows.proofs.table.TableGeometryVisitor.end_part.Goals as goal

pub returns : goal.returns
returns c = λ start parts part is ends.
    let exterior_is = c.is_exterior.ensures part c.args.points ends in
    let count = ends_count part c.args.points c.args.ring ends in
    let begins : c.saturating_sub-start.result ≡ length c.self.inside.points.items - c.args.points = search rules in
    let exterior : c.from.result ≡ truth_number c.is_exterior.result = search rules in
    let told = part_told start parts part c.args.points _ (rw (← c.self.view_is) at is) count in
    rw (c.in_ok-push.ensures.items, c.after_list.ensures, begins, exterior, exterior_is) told
