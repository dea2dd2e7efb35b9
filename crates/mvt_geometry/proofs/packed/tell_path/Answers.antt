use Rattle.std.proofs.Common.{rules, arith, ◌≡◌, ◌<◌, ◌-◌, ◌^◌, ◌++◌, ◌∷◌, [], ◌+◌, ◌+ℤ◌, ap, subst, ◌∙◌, to_z, of_z}
use Rattle.std.specs.Int.{w128}
use Rattle.mvt_geometry.specs.Inner.Telling.{ArePairs}
use Rattle.mvt_geometry.proofs.AreaLemmas.{sum_fits, summed}
use Rattle.mvt_geometry.proofs.TellingLemmas.{told_none, told_both, no_pairs, one_pair_more}
use Rattle.mvt_geometry.proofs.packed.tell_path.Goals as goal

pub loop-left-init : goal.loop-left-init
loop-left-init g c =
    ([], 0, omega arith, omega arith, no_pairs c.args.is_line c.args.from c.args.integers, told_none c.args.visitor.now)

pub returns-in_default-clause-told : goal.returns-in_default-clause-told
returns-in_default-clause-told g c = let inv = c.loop-left.invariant in (inv.0, inv.5)

pub overflow_add-area : goal.overflow_add-area
overflow_add-area g c =
    let inv = c.loop-left.invariant in
    let few : inv.1 < 2 ^ 64 - 1 = omega (arith, inv.2, c.requires) in
    let same : to_z w128 (of_z w128 c.cross-area.result) ≡ c.cross-area.result = search rules in
    rw same (sum_fits (to_z w128 c.loop-left.area-bits) c.cross-area.result inv.1 inv.4.small c.cross-area.ensures.small few)

pub loop-left-preserved : goal.loop-left-preserved
loop-left-preserved g c =
    let l = c.loop-left in
    let inv = l.invariant in
    let few : inv.1 < 2 ^ 64 - 1 = omega (arith, inv.2, c.requires) in
    let same : to_z w128 (of_z w128 c.cross-area.result) ≡ c.cross-area.result = search rules in
    let sum = summed (to_z w128 l.area-bits) c.cross-area.result _ inv.1 inv.4.small c.cross-area.ensures.small few same in (
      inv.0 ++ c.in-Some.point ∷ [],
      inv.1 + 1,
      omega (arith, inv.2, c.loop-left-test.true),
      omega (arith, inv.3, c.in-Some.ensures.further),
      one_pair_more inv.4 c.in-Some.ensures.pair _ (sum.0 ∙ ap (λ z. to_z w128 l.area-bits +ℤ z) c.cross-area.ensures.value) sum.1,
      told_both inv.5 (record { told = c.in_ok-visit_point.ensures }),
    )

pub returns-clause-further : goal.returns-clause-further
returns-clause-further g c = c.loop-left.invariant.3

pub returns-clause-path : goal.returns-clause-path
returns-clause-path g c =
    let inv = c.loop-left.invariant in
    let all : inv.1 ≡ c.args.count = omega (arith, inv.2, c.loop-left-test.false) in (
      inv.0,
      subst (λ n. ArePairs g.I.Integers.are c.args.is_line c.args.from c.args.integers c.loop-left.rest n c.loop-left.cursor
          (to_z w128 c.loop-left.area-bits) inv.0) all inv.4,
      inv.5,
    )

pub returns-clause-told : goal.returns-clause-told
returns-clause-told g c = let inv = c.loop-left.invariant in (inv.0, inv.5)
