use Rattle.std.proofs.Common.{[], refl, sym, ap, ◌∙◌}
use Rattle.mvt_wire.specs.Spelling.{short_numbers}
use Rattle.mvt_feature.specs.declared.feature.Feature.{Feature}
use Rattle.mvt_feature.proofs.RewritingLemmas.{packed_written}
use Rattle.mvt_feature.proofs.UsualLemmas.{on_any_error, told_parts, usual_feature, usual_lists}
use Rattle.mvt_feature.proofs.rewriting.rewrite_usual_feature.Goals as goal

pub returns-in_default-clause-told : goal.returns-in_default-clause-told
returns-in_default-clause-told g c = ([], [], g.met.V.GeometryVisitor.begins c.args.visitor.now)

pub returns-in_err-draw_packed-clause-memory : goal.returns-in_err-draw_packed-clause-memory
returns-in_err-draw_packed-clause-memory g c =
    on_any_error c.from_residual.result _
    (λ payload_at. usual_lists c.args.payload.now payload_at c.in-Some.parts c.in-Some.ensures.parts)

pub returns-in_err-append_usual-clause-memory : goal.returns-in_err-append_usual-clause-memory
returns-in_err-append_usual-clause-memory g c =
    on_any_error c.from_residual-in_err-append_usual.result _
    (λ payload_at. usual_lists c.args.payload.now payload_at c.in-Some.parts c.in-Some.ensures.parts)

pub returns-in_err-is_same-clause-memory : goal.returns-in_err-is_same-clause-memory
returns-in_err-is_same-clause-memory g c =
    on_any_error c.from_residual-in_err-is_same.result _
    (λ payload_at. usual_lists c.args.payload.now payload_at c.in-Some.parts c.in-Some.ensures.parts)

pub returns-in_default-2-clause-told : goal.returns-in_default-2-clause-told
returns-in_default-2-clause-told g c =
    told_parts g.V.GeometryVisitor.has_parts g.V.GeometryVisitor.has_integers c.args.visitor.now c.draw_packed.new.visitor _ _
    c.in-Some.ensures.kind (c.in_ok-draw_packed.ensures.drawn c.if-not-branch.false)

pub returns-clause-feature : goal.returns-clause-feature
returns-clause-feature g c = λ held uses.
    let parts = c.in-Some.parts in
    let (ints, packed, geometry, draws, told) = c.in_ok-draw_packed.ensures.drawn c.if-not-branch.false in
    let found = (rw c.in-Some-2.is at c.in_ok-is_same.ensures.found) held uses in
    let f : Feature = record { id = parts.id; attributes = found.attributes; geometry = geometry } in
    let read = usual_feature c.args.payload.now parts c.args.keys.now held found.tags ints f c.in-Some.ensures.parts refl found.packed packed
    found.resolved draws in (
      f,
      read.0,
      packed_written f c.args.uses.now c.use_packed.new.self c.args.out.now.items c.append_usual.new.out.items parts.id c.deref.result.now
          parts.kind ints parts.integers.now found.used refl (c.deref.ensures.value ∙ found.written)
          (c.are_short.ensures c.if-not-are_short.false ints packed) draws
          (c.in_ok-append_usual.ensures.ok (λ is. found.same is ∙ ap short_numbers (sym c.deref.ensures.value))),
      refl,
      draws.same_kind,
      told,
    )
