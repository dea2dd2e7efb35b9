use Rattle.std.proofs.Common.{arith, refl, ◌≡◌, false, [], ◌∷◌, ap, sym, subst, ◌∙◌, ◌+◌, inl, inr, ℤ, pos, ◌<ℤ◌, ◌≤ℤ◌, true, rules, to_z, of_z}
use Rattle.std.specs.Int.{w128}
use Rattle.std.specs.Int.Signed.{lt_z}
use Rattle.std.proofs.lemmas.Bool.{false≢true}
use Rattle.std.proofs.lemmas.Int.{ints, by_lt_z}
use Rattle.mvt_geometry.proofs.PolygonLemmas.{rings_may_end}
use Rattle.mvt_geometry.proofs.CountLemmas.{polygons_left, none_more, polygon_parts, none_left, rings_step, opened_one, joined_one}
use Rattle.mvt_geometry.specs.declared.shape.Kind.TheVariants as kinds
use Rattle.mvt_geometry.proofs.CommandLemmas.{first_command, may_end, some_command}
use Rattle.mvt_geometry.proofs.judging.judge_polygons.Goals as goal
use Rattle.mvt_geometry.proofs.judging.judge_polygons.Goals.{then-polygons-eq0-via-then-polygons-eq0, then-polygons-eq0-via-else-polygons-eq0+then-area-gt0}

pub loop-pen-init : goal.loop-pen-init
loop-pen-init c = ((0, refl, first_command kinds.Polygon c.args.integers.now), omega arith, λ rings left. (rings, left, omega arith))

pub returns-clause-ok : goal.returns-clause-ok
returns-clause-ok c =
    let inv = c.loop-pen.invariant.0 in
    let may = rings_may_end inv.0 inv.1 (some_command inv.2 (omega arith)) in
    may_end (λ same. cc) inv.2 c.loop-pen-test.false may.0 may.1

pub returns-clause-count : goal.returns-clause-count
returns-clause-count c = λ geometry draws.
    let g = c.args.integers.now in
    let parts = polygon_parts g geometry draws in
    let left = c.loop-pen.invariant.2 parts.0 parts.1 in
    let none = none_left 3 (15 ∷ []) g c.loop-pen.pen.at c.loop-pen.pen.cursor left.0 (omega arith) left.1 c.loop-pen-test.false in
    let nothing = ap (polygons_left c.loop-pen.polygons) none ∙ none_more c.loop-pen.polygons in
    omega (arith, nothing, left.2, parts.2)

positive : (z : ℤ) → lt_z (pos 0) z ≡ true → pos 0 <ℤ z
positive z e = by_lt_z (pos 0) z (λ h. h) (λ h. let no : lt_z (pos 0) z ≡ false = grind (arith, ints) in absurd (false≢true (sym no ∙ e)))

not_positive : (z : ℤ) → lt_z (pos 0) z ≡ false → z ≤ℤ pos 0
not_positive z e = by_lt_z (pos 0) z (λ h. let yes : lt_z (pos 0) z ≡ true = grind (arith, ints) in
    absurd (false≢true (sym e ∙ yes))) (λ h. h)

pub loop-pen-preserved : goal.loop-pen-preserved
loop-pen-preserved c =
    let g = c.args.integers.now in
    let k = c.loop-pen.invariant.0.0 in
    let third_is = c.loop-pen.invariant.0.1 in
    let here = c.loop-pen.invariant.0.2 in
    let n = c.loop-pen.polygons in
    let area_is : to_z w128 (of_z w128 c.in_ok-next.area) ≡ c.in_ok-next.area = search rules in (
      (k + 3, omega (arith, third_is), c.in_ok-next.ensures.ok k third_is here),
      omega (arith, c.loop-pen.invariant.1, c.in_ok-next.ensures.further),
      λ rings all.
          rings_step g c.loop-pen.pen.at c.in_ok-next.next.at c.loop-pen.pen.cursor c.in_ok-next.next.cursor n n
          c.in_ok-next.area rings c.loop-pen-test.true
          (λ p ps more is small spelled. c.in_ok-next.ensures.ring k p ps more third_is here is small spelled)
          (λ ring rs same. joined_one n ring rs c.if-polygons-eq0.false
          (subst (λ z. z ≤ℤ pos 0) (area_is ∙ same) (not_positive _ c.if-area-gt0.false)))
          (c.loop-pen.invariant.2 rings all),
    )

pub loop-pen-preserved-then-polygons-eq0 : goal.loop-pen-preserved-then-polygons-eq0
loop-pen-preserved-then-polygons-eq0 c =
    let g = c.args.integers.now in
    let k = c.loop-pen.invariant.0.0 in
    let third_is = c.loop-pen.invariant.0.1 in
    let here = c.loop-pen.invariant.0.2 in
    let n = c.loop-pen.polygons in
    let area_is : to_z w128 (of_z w128 c.in_ok-next.area) ≡ c.in_ok-next.area = search rules in (
      (k + 3, omega (arith, third_is), c.in_ok-next.ensures.ok k third_is here),
      omega (arith, c.loop-pen.invariant.1, c.in_ok-next.ensures.further),
      λ rings all.
          rings_step g c.loop-pen.pen.at c.in_ok-next.next.at c.loop-pen.pen.cursor c.in_ok-next.next.cursor n (n + 1)
          c.in_ok-next.area rings c.loop-pen-test.true
          (λ p ps more is small spelled. c.in_ok-next.ensures.ring k p ps more third_is here is small spelled)
          (λ ring rs same. elim c.then-polygons-eq0.branch [
            | then-polygons-eq0-via-then-polygons-eq0 w ↦ opened_one n ring rs (inl w.if-polygons-eq0.true)
            | then-polygons-eq0-via-else-polygons-eq0+then-area-gt0 w ↦ opened_one n ring rs
                (inr (subst (λ z. pos 0 <ℤ z) (area_is ∙ same) (positive _ w.if-area-gt0.true)))
          ])
          (c.loop-pen.invariant.2 rings all),
    )
