use Rattle.std.proofs.Common.{rules, arith, ◌≡◌, ◌-◌, ◌^◌, ◌<◌, ◌∷◌, ◌+ℤ◌, to_z, of_z}
use Rattle.std.specs.Int.{w128}
use Rattle.std.proofs.lemmas.Int.{to_z-of_z}
use Rattle.mvt_geometry.proofs.AreaLemmas.{sum_fits}
use Rattle.mvt_geometry.proofs.TellingLemmas.{told_both, line_there}
use Rattle.mvt_geometry.proofs.packed.tell_line.Goals as goal

pub returns-in_default-2-clause-told : goal.returns-in_default-2-clause-told
returns-in_default-2-clause-told g c =
    let path = c.in_ok-path.ensures.told in
    (c.in-Some.head.point ∷ path.0, told_both (record { told = c.in_ok-visit_point.ensures }) path.1)

pub overflow_add-result-2 : goal.overflow_add-result-2
overflow_add-result-2 g c =
    let path = rw c.in-Some-2.is at c.in_ok-path.ensures.path in
    let few : c.in-Some.head.count < 2 ^ 64 - 1 = omega (arith, c.in-Some.ensures.head.few) in
    let p : to_z w128 (of_z w128 c.in-Some-2.path.area) ≡ c.in-Some-2.path.area = search rules in
    let q : to_z w128 (of_z w128 c.cross.result) ≡ c.cross.result = search rules in
    rw (p, q) (sum_fits c.in-Some-2.path.area c.cross.result c.in-Some.head.count path.1.small c.cross.ensures.small few)

pub returns-clause-line : goal.returns-clause-line
returns-clause-line g c =
    let path = rw c.in-Some-2.is at c.in_ok-path.ensures.path in
    let few : c.in-Some.head.count < 2 ^ 64 - 1 = omega (arith, c.in-Some.ensures.head.few) in
    let p : to_z w128 (of_z w128 c.in-Some-2.path.area) ≡ c.in-Some-2.path.area = search rules in
    let q : to_z w128 (of_z w128 c.cross.result) ≡ c.cross.result = search rules in
    let fits = sum_fits c.in-Some-2.path.area c.cross.result c.in-Some.head.count path.1.small c.cross.ensures.small few in (
      c.in-Some.head.point ∷ path.0,
      rw (p, q) (line_there c.in-Some.ensures.head path.1 _ _ c.cross.ensures.value
          (to_z-of_z w128 (c.in-Some-2.path.area +ℤ c.cross.result) fits)
          _ c.is_same.ensures),
      told_both (record { told = c.in_ok-visit_point.ensures }) path.2,
    )

pub returns-clause-told : goal.returns-clause-told
returns-clause-told g c =
    let path = c.in_ok-path.ensures.told in
    (c.in-Some.head.point ∷ path.0, told_both (record { told = c.in_ok-visit_point.ensures }) path.1)
