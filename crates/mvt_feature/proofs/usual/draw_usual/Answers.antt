use Rattle.std.proofs.Common.{[], refl}
use Rattle.mvt_attrs.proofs.AttrsLaws.{attributes_or_fault_there}
use Rattle.mvt_feature.specs.declared.feature.Feature.{Feature}
use Rattle.mvt_feature.proofs.OrFaultLemmas.{feature_keeps}
use Rattle.mvt_feature.proofs.UsualLemmas.{on_any_error, usual_feature, usual_lists}
use Rattle.mvt_feature.proofs.usual.draw_usual.Goals as goal

pub returns-in_default-clause-told : goal.returns-in_default-clause-told
returns-in_default-clause-told g c = ([], [], g.met.V.GeometryVisitor.begins c.args.visitor.now)

pub returns-in_err-draw_packed-clause-memory : goal.returns-in_err-draw_packed-clause-memory
returns-in_err-draw_packed-clause-memory g c =
    on_any_error c.from_residual.result _ (usual_lists c.args.payload.now c.args.payload_at c.in-Some.parts c.in-Some.ensures.parts)

pub returns-in_err-judge_packed-clause-memory : goal.returns-in_err-judge_packed-clause-memory
returns-in_err-judge_packed-clause-memory g c =
    on_any_error c.from_residual-in_err-judge_packed.result _
    (usual_lists c.args.payload.now c.args.payload_at c.in-Some.parts c.in-Some.ensures.parts)

pub returns-in-Good-clause-feature : goal.returns-in-Good-clause-feature
returns-in-Good-clause-feature g c =
    let parts = c.in-Some.parts in
    let drawn = c.in_ok-draw_packed.ensures.drawn c.if-not-branch.false in
    let found = rw c.in-Good.is at c.in_ok-judge_packed.ensures.found in (
      found.tags,
      found.told,
      λ held e.
          let there = attributes_or_fault_there c.args.keys.now held found.tags (found.faultless held e) in
          let f : Feature = record { id = parts.id; attributes = there.0; geometry = drawn.2 } in
          let read = usual_feature c.args.payload.now parts c.args.keys.now held found.tags drawn.0 f c.in-Some.ensures.parts refl
          found.packed drawn.1 there.1 drawn.3 in
          record {
            tagged = read.1;
            attributes = there.0;
            geometry = drawn.2;
            resolved = there.1;
            is = read.0;
            kind = drawn.3.same_kind;
            holds = drawn.4;
          },
    )

pub returns-in-Good-clause-ok : goal.returns-in-Good-clause-ok
returns-in-Good-clause-ok g c = λ held e.
    let parts = c.in-Some.parts in
    let drawn = c.in_ok-draw_packed.ensures.drawn c.if-not-branch.false in
    let found = rw c.in-Good.is at c.in_ok-judge_packed.ensures.found in
    let there = attributes_or_fault_there c.args.keys.now held found.tags (found.faultless held e) in
    let f : Feature = record { id = parts.id; attributes = there.0; geometry = drawn.2 } in
    feature_keeps c.args.payload.now c.args.payload_at c.args.keys.now held f
    (usual_feature c.args.payload.now parts c.args.keys.now held found.tags drawn.0 f c.in-Some.ensures.parts refl
    found.packed drawn.1 there.1 drawn.3).0
