use Rattle.std.proofs.Common.{rules, ◌<◌, ◌^◌, sym, ◌∙◌}
use Rattle.mvt_geometry.specs.Commands.{Pair}
use Rattle.mvt_geometry.proofs.TellingLemmas.{if_none, pair_there}
use Rattle.mvt_geometry.proofs.packed.point_front.Goals as goal

pub returns-clause-pair : goal.returns-clause-pair
returns-clause-pair g c =
    let from = c.args.from in
    let d : Pair = record { dx = c.in_ok-dx.dx; dy = c.in_ok-dy.dy } in
    let kept = if_none c.step_fault.result (sym c.is_some.ensures ∙ c.if-is_some.false) c.step_fault.ensures.none in
    let small_x : c.in_ok-dx.dx < 2 ^ 32 = search rules in
    let small_y : c.in_ok-dy.dy < 2 ^ 32 = search rules in
    pair_there c.args.is_line 0 from _ d c.in_ok-dx.behind (small_x, small_y) kept.0 c.moved_by.ensures c.in_ok-dx.ensures.number c.in_ok-dy.ensures.number
