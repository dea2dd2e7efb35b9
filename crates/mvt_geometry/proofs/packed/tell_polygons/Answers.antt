use Rattle.std.proofs.Common.{rules, ◌≡◌, ◌||◌, ◌++◌, [], ◌∷◌, true, pos, ◌≤ℤ◌, refl, sym, ap, ap₂, subst, ◌∙◌, to_z, of_z}
use Rattle.std.specs.Int.{w128}
use Rattle.std.specs.Int.Signed.{lt_z}
use Rattle.mvt_geometry.specs.declared.shape.Geometry.TheVariants.{Polygons}
use Rattle.mvt_geometry.specs.Drawing.{drawn}
use Rattle.mvt_geometry.specs.Inner.Grouping.{parts_of_rings}
use Rattle.mvt_geometry.specs.Visiting.{ring_part}
use Rattle.mvt_geometry.proofs.ToldLemmas.{none_in_front, one_more_in_front, rings_told, ring_parts-push, first_no_more, first_stays_fine}
use Rattle.mvt_geometry.proofs.packed.tell_polygons.Goals as goal

pub loop-cursor-init : goal.loop-cursor-init
loop-cursor-init g c = (
  [],
  none_in_front 3 (15 ∷ []) c.args.integers c.requires,
  tt,
  refl,
  g.met.V.GeometryVisitor.begins c.args.visitor.now,
)

pub returns-in_default-clause-told : goal.returns-in_default-clause-told
returns-in_default-clause-told g c =
    let inv = c.loop-cursor.invariant in
    let ring = c.in_ok-ring.ensures.told in
    let done = parts_of_rings true inv.0 in
    (done, ring.0, ring.1.told c.args.visitor.now done [] inv.4)

pub returns-then-not-may_stand-clause-told : goal.returns-then-not-may_stand-clause-told
returns-then-not-may_stand-clause-told g c =
    let inv = c.loop-cursor.invariant in
    let ring = c.in_ok-ring.ensures.told in
    let done = parts_of_rings true inv.0 in
    (done, ring.0, ring.1.told c.args.visitor.now done [] inv.4)

pub loop-cursor-smaller : goal.loop-cursor-smaller
loop-cursor-smaller g c = rw c.in-Some.is at c.in_ok-ring.ensures.further

pub loop-cursor-preserved : goal.loop-cursor-preserved
loop-cursor-preserved g c =
    let start = c.args.visitor.now in
    let inv = c.loop-cursor.invariant in
    let rings = inv.0 in
    let done = parts_of_rings true rings in
    let ring = rw c.in-Some.is at c.in_ok-ring.ensures.line in
    let same : to_z w128 (of_z w128 c.in-Some.ring.area) ≡ c.in-Some.ring.area = search rules in
    let area = same ∙ ring.1.area_is in
    let begun = ring.2.told start done [] inv.4 in
    let ended =
    c.in_ok-end_part.ensures start done (ring_part c.begins_polygon.result ring.0) begun
    (ring.1.long, refl, refl, area, ring.1.closed_is) in
    let exterior = c.begins_polygon.ensures ∙ ap₂ (λ first a. first || lt_z (pos 0) a) inv.3 area in (
      rings ++ ring.0 ∷ [],
      one_more_in_front inv.1 ring.1,
      first_stays_fine rings ring.0 inv.2
          (λ first. subst (λ a. pos 0 ≤ℤ a) area (c.may_stand.ensures c.if-not-may_stand.false (inv.3 ∙ first))),
      sym (first_no_more rings ring.0),
      subst (λ parts. g.V.GeometryVisitor.has_parts start parts [] c.end_part.new.self)
          (ap (λ e. done ++ ring_part e ring.0 ∷ []) exterior ∙ sym (ring_parts-push true rings ring.0)) ended,
    )

pub returns-clause-drawn : goal.returns-clause-drawn
returns-clause-drawn g c = λ yes.
    let inv = c.loop-cursor.invariant in
    let none : g.I.Integers.size c.loop-cursor.rest ≡ 0 = search rules in
    let done = g.met.I.Integers.none c.loop-cursor.rest none in
    let told = rings_told inv.1 inv.2 none done in
    let polygons = told.0 in (
      drawn (Polygons polygons),
      told.1,
      Polygons polygons,
      record { same_kind = refl; valid = told.2; spelled = refl },
      subst (λ parts. g.V.GeometryVisitor.has_parts c.args.visitor.now parts [] c.loop-cursor.visitor) told.3 inv.4,
    )
