use Rattle.std.proofs.Common.{ap, ◌∙◌}
use Rattle.mvt_rows.specs.Building.{with_points_of}
use Rattle.mvt_rows.specs.Told.{new_part}
use Rattle.mvt_rows.proofs.BuildingLemmas.{part_more, with_row}
use Rattle.mvt_rows.proofs.WholeLemmas.{ok_to}
use Rattle.mvt_rows.proofs.builder.Builder.add_part.Goals as goal

pub returns-clause-holds : goal.returns-clause-holds
returns-clause-holds c = λ t l f h.
    let before = c.args.self.now.table in
    let part = new_part c.args.exterior c.args.points.now in
    ok_to c.add_part_row.result _ _
    (λ added.
    part_more c.args.self.now c.add_part_row.new.self t l f c.args.exterior c.args.points.now h
    (added ∙ ap (λ held. with_row held c.args.exterior c.point_count-start.result) c.in_ok-add_points.ensures
    ∙ ap (λ n. with_row (with_points_of before part) c.args.exterior n) c.point_count-start.ensures))
    c.add_part_row.ensures
