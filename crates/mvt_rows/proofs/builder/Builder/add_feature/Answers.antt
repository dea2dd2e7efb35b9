use Rattle.std.proofs.Common.{[], IsSomeAnd, Some, ◌∙◌}
use Rattle.mvt_rows.specs.Told.{InFeature, InLayer, add_feature, whole_feature, with_feature}
use Rattle.mvt_rows.specs.Building.{HasTold, Holds}
use Rattle.mvt_rows.specs.ToldRows.{rows_of}
use Rattle.mvt_rows.proofs.WholeLemmas.{begun_in, in_a_layer, ok_to, step_of, whole_begun, whole_told}
use Rattle.mvt_rows.proofs.builder.Builder.add_feature.Goals as goal

pub returns : goal.returns
returns c = λ parts made.
    let a = c.args in
    step_of c.end_feature.result a.self.now c.end_feature.new.self (add_feature a.kind a.id a.tags.now (Some parts))
    (λ told h.
    let t = rows_of told.items in
    let (l, is) = in_a_layer a.self.now t told.begun c.requires h.1 in
    let begun = begun_in c.begin_feature.new.self told l a.kind is (c.in_ok-begin_feature.ensures.done told h) in
    let whole = whole_begun c.begin_feature.new.self c.add_tags.new.self t l a.kind a.id a.tags.now begun.1 c.in_ok-add_tags.ensures in
    let added = c.in_ok-add_parts.ensures.holds t l (whole_feature a.kind a.id a.tags.now []) parts whole made in
    let fresh = c.end_feature.ensures.failure ∙ c.in_ok-add_parts.ensures.failure ∙ begun.0 in
    ok_to c.end_feature.result
    (Holds c.end_feature.new.self t (InLayer (with_feature l (whole_feature a.kind a.id a.tags.now parts))))
    (IsSomeAnd (add_feature a.kind a.id a.tags.now (Some parts) told) (HasTold c.end_feature.new.self))
    (λ ended. whole_told c.end_feature.new.self told l (whole_feature a.kind a.id a.tags.now parts) is (fresh, ended))
    (c.end_feature.ensures.holds t (InFeature l (whole_feature a.kind a.id a.tags.now parts)) added))
