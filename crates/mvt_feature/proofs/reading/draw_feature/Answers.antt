use Rattle.std.proofs.Common.{Err, inl, inr, ap, refl}
use Rattle.std.proofs.lemmas.Result.{err_from_is_err_and}
use Rattle.mvt_attrs.proofs.AttrsLaws.{attributes_or_fault_there}
use Rattle.mvt_geometry.proofs.GeometryLaws.{drawn_is_faultless}
use Rattle.mvt_feature.proofs.ListingLemmas.{geometry_memory, tag_memory, tags_listed}
use Rattle.mvt_feature.proofs.FeatureLemmas.{Says, known_reported, tags_reported, drawing_reported, feature_clean, feature_from}
use Rattle.mvt_feature.proofs.reading.draw_feature.Goals as goal

pub returns-in_err-known-clause-err : goal.returns-in_err-known-clause-err
returns-in_err-known-clause-err g c =
    let p = err_from_is_err_and c.from_residual.result c.from_residual.ensures.1 in
    rw (p.1, p.2)
    (λ held e. known_reported c.args.payload.now c.args.payload_at c.args.keys.now held c.in_err-known.field-0.0 c.in_err-known.ensures.err)

pub returns-in_err-judge_tags-clause-err : goal.returns-in_err-judge_tags-clause-err
returns-in_err-judge_tags-clause-err g c =
    let p = err_from_is_err_and c.from_residual-in_err-judge_tags.result c.from_residual-in_err-judge_tags.ensures.1 in
    let known = c.in_ok-known.ensures in
    let says : Says c.args.payload.now c.args.payload_at _ _ _ = record { whole = known.whole; clean = known.ok; known_is = known.known } in
    rw (p.1, p.2) (λ held e. tags_reported says c.args.keys.now held c.in_err-judge_tags.field-0.0
    (rw c.deref.ensures.value at (c.in_err-judge_tags.ensures.err held e)))

pub returns-in_err-draw_geometry-clause-err : goal.returns-in_err-draw_geometry-clause-err
returns-in_err-draw_geometry-clause-err g c =
    let p = err_from_is_err_and c.from_residual-in_err-draw_geometry.result c.from_residual-in_err-draw_geometry.ensures.1 in
    let known = c.in_ok-known.ensures in
    let says : Says c.args.payload.now c.args.payload_at _ _ _ = record { whole = known.whole; clean = known.ok; known_is = known.known } in
    rw (p.1, p.2) (λ held e. drawing_reported says c.args.keys.now held c.in_err-draw_geometry.field-0.0
    (rw c.deref.ensures.value at (c.in_ok-judge_tags.ensures.ok held e))
    (rw c.deref-2.ensures.value at c.in_err-draw_geometry.ensures.err))

pub returns-clause-feature : goal.returns-clause-feature
returns-clause-feature g c =
    let known = c.in_ok-known.ensures in
    let says : Says c.args.payload.now c.args.payload_at _ _ _ = record { whole = known.whole; clean = known.ok; known_is = known.known } in
    let drawn = c.in_ok-draw_geometry.ensures.drawn in
    λ held e.
    let there = attributes_or_fault_there c.args.keys.now held _ (rw c.deref.ensures.value at (c.in_ok-judge_tags.ensures.ok held e)) in
    record {
      tagged = known.known.tags_are;
      attributes = there.0;
      geometry = drawn.0;
      resolved = there.1;
      is = feature_from says c.args.keys.now held _ refl there.1 (rw (← c.deref-2.ensures.value) drawn.1);
      kind = drawn.1.same_kind;
      holds = drawn.2;
    }

pub returns-clause-ok : goal.returns-clause-ok
returns-clause-ok g c =
    let known = c.in_ok-known.ensures in
    let says : Says c.args.payload.now c.args.payload_at _ _ _ = record { whole = known.whole; clean = known.ok; known_is = known.known } in
    λ held e. feature_clean says c.args.keys.now held
    (rw c.deref.ensures.value at (c.in_ok-judge_tags.ensures.ok held e))
    (rw c.deref-2.ensures.value at c.in_ok-draw_geometry.ensures.ok)

pub returns-in_err-draw_geometry-clause-untold : goal.returns-in_err-draw_geometry-clause-untold
returns-in_err-draw_geometry-clause-untold g c =
    let known = c.in_ok-known.ensures in
    let says : Says c.args.payload.now c.args.payload_at _ _ _ = record { whole = known.whole; clean = known.ok; known_is = known.known } in
    λ held e faulty. c.in_err-draw_geometry.ensures.untold
    (λ clean. faulty (feature_clean says c.args.keys.now held
    (rw c.deref.ensures.value at (c.in_ok-judge_tags.ensures.ok held e))
    (rw c.deref-2.ensures.value at clean)))

pub returns-clause-untold : goal.returns-clause-untold
returns-clause-untold g c =
    let known = c.in_ok-known.ensures in
    let says : Says c.args.payload.now c.args.payload_at _ _ _ = record { whole = known.whole; clean = known.ok; known_is = known.known } in
    λ held e faulty. absurd (faulty (feature_clean says c.args.keys.now held
    (rw c.deref.ensures.value at (c.in_ok-judge_tags.ensures.ok held e))
    (rw c.deref-2.ensures.value at c.in_ok-draw_geometry.ensures.ok)))

pub returns-in_err-known-clause-memory : goal.returns-in_err-known-clause-memory
returns-in_err-known-clause-memory g c = λ h.
    let p = err_from_is_err_and c.from_residual.result c.from_residual.ensures.1 in
    inl (c.in_err-known.ensures.memory (let k = rw p.1 at h in let q = p.2 in cc))

pub returns-in_err-judge_tags-clause-memory : goal.returns-in_err-judge_tags-clause-memory
returns-in_err-judge_tags-clause-memory g c = λ h.
    let p = err_from_is_err_and c.from_residual-in_err-judge_tags.result c.from_residual-in_err-judge_tags.ensures.1 in
    let known = c.in_ok-known.ensures in
    let says : Says c.args.payload.now c.args.payload_at _ _ _ = record { whole = known.whole; clean = known.ok; known_is = known.known } in
    let is = tag_memory c.in_err-judge_tags.field-0.0 (let k = rw p.1 at h in let q = p.2 in cc) in
    inl (tags_listed says (rw c.deref.ensures.value at (c.in_err-judge_tags.ensures.memory (ap Err is))))

pub returns-in_err-draw_geometry-clause-memory : goal.returns-in_err-draw_geometry-clause-memory
returns-in_err-draw_geometry-clause-memory g c = λ h.
    let p = err_from_is_err_and c.from_residual-in_err-draw_geometry.result c.from_residual-in_err-draw_geometry.ensures.1 in
    let known = c.in_ok-known.ensures in
    let says : Says c.args.payload.now c.args.payload_at _ _ _ = record { whole = known.whole; clean = known.ok; known_is = known.known } in
    let is = geometry_memory c.in_err-draw_geometry.field-0.0 (let k = rw p.1 at h in let q = p.2 in cc) in
    let drawn = c.in_err-draw_geometry.ensures.memory (ap Err is) in
    inr (λ held e. feature_clean says c.args.keys.now held
    (rw c.deref.ensures.value at (c.in_ok-judge_tags.ensures.ok held e))
    (rw c.deref-2.ensures.value at (drawn_is_faultless _ _ drawn.0 drawn.1)))
