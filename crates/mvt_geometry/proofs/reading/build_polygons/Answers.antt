use Rattle.std.proofs.Common.{rules, ◌≡◌, ◌<◌, ◌++◌, [], ◌∷◌, List, length, sym, ap, ap₂, ◌∙◌, append-nil}
use Rattle.mvt_geometry.specs.declared.shape.Polygon.{Polygon}
use Rattle.mvt_geometry.specs.Inner.Grouping.{opened, polygons_of}
use Rattle.mvt_geometry.proofs.BuildLemmas.{rings_first, more_lines, end_of_lines}
use Rattle.mvt_geometry.proofs.reading.build_polygons.Goals as goal

pub build_ring-requires : goal.build_ring-requires
build_ring-requires c = let f = rings_first c.requires.1 in (f.line, _, f.front)

pub loop-rest-init : goal.loop-rest-init
loop-rest-init c = λ rings are.
    let f = rings_first are in
    let ring = c.in_ok-first.ensures.line f.line _ f.front in (
      f.others,
      ap₂ (λ ps (p : List Polygon). ps ++ p) c.in_ok-polygons.ensures.items
          (ap₂ (λ p n. opened p n f.others) ring.0 c.new.ensures.items)
          ∙ sym (ap polygons_of f.lines_are),
      f.others_are c.in_ok-first.first.end c.in_ok-first.first.after.now ring.1 ring.2,
    )

pub build_ring-requires-in-loop-rest : goal.build_ring-requires-in-loop-rest
build_ring-requires-in-loop-rest c =
    let some : 0 < length c.loop-rest.rest.now = search rules in
    let f = more_lines (c.loop-rest.invariant c.requires.0 c.requires.1).2 some in
    (f.line, _, f.front)

pub loop-rest-preserved : goal.loop-rest-preserved
loop-rest-preserved c = λ rings are.
    let some : 0 < length c.loop-rest.rest.now = search rules in
    let inv = c.loop-rest.invariant rings are in
    let f = more_lines inv.2 some in
    let ring = c.in_ok-ring.ensures.line f.line _ f.front in
    let l = c.loop-rest in (
      f.others,
      c.in_ok-add_ring.ensures f.others
          ∙ ap (λ r. l.polygons.items ++ opened l.current.outer l.current.inner.items (r ∷ f.others)) ring.0
          ∙ ap (λ rs. l.polygons.items ++ opened l.current.outer l.current.inner.items rs) (sym f.lines_are) ∙ inv.1,
      f.others_are c.in_ok-ring.ring.end c.in_ok-ring.ring.after.now ring.1 ring.2,
    )

pub returns : goal.returns
returns c = λ rings are.
    let none : length c.loop-rest.rest.now ≡ 0 = search rules in
    let inv = c.loop-rest.invariant rings are in
    let l = c.loop-rest in
    c.in_ok-push.ensures.items ∙ ap (λ p. l.polygons.items ++ p ∷ []) c.closed.ensures
    ∙ ap (λ rest. l.polygons.items ++ record { outer = l.current.outer; rest = rest } ∷ [])
    (sym (append-nil l.current.inner.items))
    ∙ ap (λ rs. l.polygons.items ++ opened l.current.outer l.current.inner.items rs) (sym (end_of_lines inv.2 none)) ∙ inv.1
