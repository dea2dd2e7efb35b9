use Rattle.std.proofs.Common.{arith, ◌<◌, length, map, sym, ◌∙◌}
use Rattle.std.proofs.lemmas.Grind.{common_steps}
use Rattle.std.proofs.lemmas.List.{length-map}
use Rattle.mvt_rows.specs.TileRows.{point_of}
use Rattle.mvt_rows.proofs.UndrawnLemmas.{points_valid}
use Rattle.mvt_rows.proofs.writing.refused.refused_points.Goals as goal

pub unreachable-requires : goal.unreachable-requires
unreachable-requires c =
    let points = c.args.points.now in
    let count = length-map points point_of in
    let some : 0 < length points = grind (arith, common_steps) in
    c.requires (points_valid (map point_of points) (omega (arith, count, some)) (omega (arith, count, c.if-points-ge-MOST_POINTS.false))
    (sym c.path_fault.ensures ∙ c.in-None.is))
