use Rattle.std.proofs.Common.{rules, arith, ◌≡◌, ◌-◌, ◌^◌, ◌<◌, length, map, take, ◌+ℤ◌, sym, ap, ap₂, ◌∙◌, to_z, of_z}
use Rattle.std.specs.Int.{w128}
use Rattle.std.proofs.lemmas.List.{take_all}
use Rattle.mvt_geometry.specs.Area.{cross}
use Rattle.mvt_geometry.specs.Inner.Judging.{edges}
use Rattle.mvt_geometry.proofs.AreaLemmas.{summed, edges-push, last_of-push}
use Rattle.mvt_geometry.proofs.PenLemmas.{points_to, positions_round}
use Rattle.mvt_geometry.proofs.area.area_of.Goals as goal
use Rattle.mvt_geometry.specs.Shape.{last_of}

pub loop-position-preserved : goal.loop-position-preserved
loop-position-preserved g c =
    let l = c.loop-position in
    let f = g.P.Position.point_of in
    let here = c.point-point.result in
    let from = c.point-before.result in
    let done = map f (take l.position-index c.args.ring.now) in
    let more = points_to f c.args.ring.now l.position-index c.position-item.result here c.loop-position-test.true c.position-item.is
    c.point-point.ensures in
    let few : l.position-index < 2 ^ 64 - 1 = omega arith in
    let same : to_z w128 (of_z w128 c.cross-sum.result) ≡ c.cross-sum.result = search rules in
    let sum = summed (to_z w128 l.sum-bits) c.cross-sum.result _ l.position-index l.invariant.2 c.cross-sum.ensures.small few same in (
      sum.0 ∙ ap₂ (λ a b. a +ℤ b) l.invariant.0 (c.cross-sum.ensures.value ∙ ap (λ p. cross p here) l.invariant.1)
          ∙ sym (ap (edges from) more ∙ edges-push from done here),
      sym (ap (last_of from) more ∙ last_of-push from done here),
      sum.1,
    )

pub returns : goal.returns
returns g c =
    let f = g.P.Position.point_of in
    let ring = c.args.ring.now in
    let some : 0 < length ring = omega arith in
    c.loop-position.invariant.0
    ∙ ap (λ ps. edges c.point-before.result (map f ps)) (take_all c.loop-position.position-index ring c.loop-position-test.false)
    ∙ positions_round f ring c.index-ring-count.result c.point-before.result some c.index-ring-count.is c.point-before.ensures
