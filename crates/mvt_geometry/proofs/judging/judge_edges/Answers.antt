use Rattle.std.proofs.Common.{rules, arith, ◌≡◌, ◌≤◌, ◌<◌, ◌-◌, ◌^◌, [], ◌∷◌, ◌++◌, length, ◌+ℤ◌, refl, sym, ap₂, ◌∙◌, to_z, of_z}
use Rattle.std.specs.Int.{w128}
use Rattle.std.proofs.lemmas.List.{length_push}
use Rattle.mvt_geometry.proofs.AreaLemmas.{sum_fits, summed}
use Rattle.mvt_geometry.proofs.WalkLemmas.{first_pair, walk_begins, walk_steps, walk_stops, edges_more_here}
use Rattle.mvt_geometry.proofs.judging.judge_edges.Goals as goal

pub loop-rest-init : goal.loop-rest-init
loop-rest-init c = ([], walk_begins c.args.is_line c.args.begin c.args.from c.args.parameters.now, refl, omega arith)

pub returns-in-Some-clause-err : goal.returns-in-Some-clause-err
returns-in-Some-clause-err c =
    let l = c.loop-rest in
    walk_stops c.args.is_line c.args.begin c.args.from c.args.parameters.now l.rest.now l.cursor l.invariant.0 l.invariant.1
    (omega (arith, c.in-len2-up.len_at_least)) _ _ refl c.in-Some.ensures.some

pub overflow_add-area : goal.overflow_add-area
overflow_add-area c =
    let inv = c.loop-rest.invariant in
    let few : length inv.0 < 2 ^ 64 - 1 = omega (arith, inv.1.used, c.requires) in
    let same : to_z w128 (of_z w128 c.cross-area.result) ≡ c.cross-area.result = search rules in
    rw same (sum_fits (to_z w128 c.loop-rest.area-bits) c.cross-area.result (length inv.0) inv.3 c.cross-area.ensures.small few)

pub loop-rest-preserved : goal.loop-rest-preserved
loop-rest-preserved c =
    let l = c.loop-rest in
    let inv = l.invariant in
    let kept = c.in_default-step_fault.ensures.none in
    let to_is = c.moved_by-next.ensures in
    let two : 2 ≤ length l.rest.now = omega (arith, c.in-len2-up.len_at_least) in
    let few : length inv.0 < 2 ^ 64 - 1 = omega (arith, inv.1.used, c.requires) in
    let same : to_z w128 (of_z w128 c.cross-area.result) ≡ c.cross-area.result = search rules in
    let sum = summed (to_z w128 l.area-bits) c.cross-area.result _ (length inv.0) inv.3 c.cross-area.ensures.small few same in
    let more = edges_more_here c.args.is_line c.args.begin c.args.from c.args.parameters.now l.rest.now l.cursor inv.0 inv.1 two _ to_is in (
      inv.0 ++ first_pair l.rest.now ∷ [],
      walk_steps c.args.is_line c.args.begin c.args.from c.args.parameters.now l.rest.now l.cursor inv.0 inv.1 two _ _ refl kept.0 to_is,
      sum.0 ∙ ap₂ (λ a b. a +ℤ b) inv.2 c.cross-area.ensures.value ∙ sym more,
      rw (length_push inv.0 (first_pair l.rest.now)) sum.1,
    )
