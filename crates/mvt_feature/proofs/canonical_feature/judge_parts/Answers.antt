use Rattle.mvt_attrs.proofs.AttrsLaws.{uses_in_order}
use Rattle.mvt_geometry.specs.Visiting.{HasDrawn}
use Rattle.mvt_feature.proofs.CopyingPartsLemmas.{feature_found}
use Rattle.mvt_feature.proofs.FeatureLemmas.{packed_small}
use Rattle.mvt_feature.proofs.UsualLemmas.{told_parts}
use Rattle.mvt_feature.proofs.canonical_feature.judge_parts.Goals as goal

pub returns-in-Good-true-clause-found : goal.returns-in-Good-true-clause-found
returns-in-Good-true-clause-found g c = λ held count ready.
    let keys = c.args.keys.now in
    let (ints, packed, geometry, draws, told) = c.in_ok-draw_packed.ensures.drawn c.if-not-branch.false in
    let found = rw c.in-Good-true.is at c.in_ok-judge_packed.ensures.found in
    let after = c.judge_packed.new.visitor in
    feature_found (HasDrawn g.V.GeometryVisitor.has_parts g.V.GeometryVisitor.has_integers c.args.visitor.now c.draw_packed.new.visitor)
    c.args.parts.now keys held found.tags ints geometry c.args.used (after.keys, after.values) ready c.requires.id
    (found.short c.in-Good-true.is_short-test)
    (packed_small c.args.parts.now.tags.now found.tags found.packed) (c.are_short.ensures c.if-not-are_short.false ints packed)
    (found.faultless held count) draws told
    (λ attributes names.
    uses_in_order keys held attributes found.tags c.args.used (after.keys, after.values) ready.keys_apart ready.values_apart ready.keys_within
    ready.values_within names found.told)

pub returns-in-Broken-clause-told : goal.returns-in-Broken-clause-told
returns-in-Broken-clause-told g c = λ _.
    told_parts g.V.GeometryVisitor.has_parts g.V.GeometryVisitor.has_integers c.args.visitor.now c.draw_packed.new.visitor _ _
    c.requires.kind (c.in_ok-draw_packed.ensures.drawn c.if-not-branch.false)

pub returns-in_default-clause-told : goal.returns-in_default-clause-told
returns-in_default-clause-told g c = λ _.
    told_parts g.V.GeometryVisitor.has_parts g.V.GeometryVisitor.has_integers c.args.visitor.now c.draw_packed.new.visitor _ _
    c.requires.kind (c.in_ok-draw_packed.ensures.drawn c.if-not-branch.false)

pub returns-in_default-2-clause-told : goal.returns-in_default-2-clause-told
returns-in_default-2-clause-told g c = λ _.
    told_parts g.V.GeometryVisitor.has_parts g.V.GeometryVisitor.has_integers c.args.visitor.now c.draw_packed.new.visitor _ _
    c.requires.kind (c.in_ok-draw_packed.ensures.drawn c.if-not-branch.false)
