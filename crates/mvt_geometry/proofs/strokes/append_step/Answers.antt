use Rattle.std.proofs.Common.{rules, ◌≡◌, ap, ◌∙◌, to_z, of_z, w32}
use Rattle.std.proofs.lemmas.Result.{on_ok_weaker}
use Rattle.mvt_wire.specs.Zigzag.{zig}
use Rattle.mvt_geometry.proofs.WritingLemmas.{difference}
use Rattle.mvt_geometry.proofs.PenLemmas.{pair_put}
use Rattle.mvt_geometry.proofs.strokes.append_step.Goals as goal

pub returns : goal.returns
returns g c =
    let to_x : to_z w32 (of_z w32 c.args.to.x) ≡ c.args.to.x = search rules in
    let to_y : to_z w32 (of_z w32 c.args.to.y) ≡ c.args.to.y = search rules in
    let from_x : to_z w32 (of_z w32 c.args.from.x) ≡ c.args.from.x = search rules in
    let from_y : to_z w32 (of_z w32 c.args.from.y) ≡ c.args.from.y = search rules in
    let x = c.zigzag32.ensures ∙ ap zig ((difference _ _ _ _ to_x from_x c.requires.0).1) in
    let y = c.zigzag32-2.ensures ∙ ap zig ((difference _ _ _ _ to_y from_y c.requires.1).1) in
    on_ok_weaker c.push_number-2.result
    (λ put. pair_put (g.N.NumberList.numbers c.args.list.now) _ _ _ _ _ _ c.in_ok-push_number.ensures.ok put x y)
    c.push_number-2.ensures.ok
