use Rattle.std.proofs.Common.{Err, ap}
use Rattle.std.proofs.lemmas.Result.{err_from_is_err_and}
use Rattle.mvt_feature.proofs.ListingLemmas.{geometry_memory, tag_memory, tags_listed}
use Rattle.mvt_feature.proofs.FeatureLemmas.{Says, known_reported, tags_reported, drawing_reported, feature_clean}
use Rattle.mvt_feature.proofs.RewritingLemmas.{judged_from}
use Rattle.mvt_feature.proofs.reading.judge_into_scratch.Goals as goal

pub returns-in_err-known-clause-err : goal.returns-in_err-known-clause-err
returns-in_err-known-clause-err c =
    let p = err_from_is_err_and c.from_residual.result c.from_residual.ensures.1 in
    rw (p.1, p.2)
    (λ held e. known_reported c.args.payload.now c.args.payload_at c.args.keys.now held c.in_err-known.field-0.0 c.in_err-known.ensures.err)

pub returns-in_err-judge_tags-clause-err : goal.returns-in_err-judge_tags-clause-err
returns-in_err-judge_tags-clause-err c =
    let p = err_from_is_err_and c.from_residual-in_err-judge_tags.result c.from_residual-in_err-judge_tags.ensures.1 in
    let known = c.in_ok-known.ensures in
    let says : Says c.args.payload.now c.args.payload_at _ _ _ = record { whole = known.whole; clean = known.ok; known_is = known.known } in
    rw (p.1, p.2) (λ held e. tags_reported says c.args.keys.now held c.in_err-judge_tags.field-0.0
    (rw c.deref.ensures.value at (c.in_err-judge_tags.ensures.err held e)))

pub returns-in_err-judge_geometry-clause-err : goal.returns-in_err-judge_geometry-clause-err
returns-in_err-judge_geometry-clause-err c =
    let p = err_from_is_err_and c.from_residual-in_err-judge_geometry.result c.from_residual-in_err-judge_geometry.ensures.1 in
    let known = c.in_ok-known.ensures in
    let says : Says c.args.payload.now c.args.payload_at _ _ _ = record { whole = known.whole; clean = known.ok; known_is = known.known } in
    rw (p.1, p.2) (λ held e. drawing_reported says c.args.keys.now held c.in_err-judge_geometry.field-0.0
    (rw c.deref.ensures.value at (c.in_ok-judge_tags.ensures.ok held e))
    (rw c.deref-2.ensures.value at c.in_err-judge_geometry.ensures.err))

pub returns-clause-ok : goal.returns-clause-ok
returns-clause-ok c =
    let known = c.in_ok-known.ensures in
    let says : Says c.args.payload.now c.args.payload_at _ _ _ = record { whole = known.whole; clean = known.ok; known_is = known.known } in
    λ held e. feature_clean says c.args.keys.now held
    (rw c.deref.ensures.value at (c.in_ok-judge_tags.ensures.ok held e))
    (rw c.deref-2.ensures.value at c.in_ok-judge_geometry.ensures.ok)

pub returns-clause-judged : goal.returns-clause-judged
returns-clause-judged c =
    let known = c.in_ok-known.ensures in
    let says : Says c.args.payload.now c.args.payload_at _ _ _ = record { whole = known.whole; clean = known.ok; known_is = known.known } in
    λ held e. judged_from says c.args.keys.now held
    (rw c.deref.ensures.value at (c.in_ok-judge_tags.ensures.ok held e))
    (rw c.deref-2.ensures.value at c.in_ok-judge_geometry.ensures.ok)

pub returns-in_err-known-clause-memory : goal.returns-in_err-known-clause-memory
returns-in_err-known-clause-memory c = λ h.
    let p = err_from_is_err_and c.from_residual.result c.from_residual.ensures.1 in
    c.in_err-known.ensures.memory (let k = rw p.1 at h in let q = p.2 in cc)

pub returns-in_err-judge_tags-clause-memory : goal.returns-in_err-judge_tags-clause-memory
returns-in_err-judge_tags-clause-memory c = λ h.
    let p = err_from_is_err_and c.from_residual-in_err-judge_tags.result c.from_residual-in_err-judge_tags.ensures.1 in
    let known = c.in_ok-known.ensures in
    let says : Says c.args.payload.now c.args.payload_at _ _ _ = record { whole = known.whole; clean = known.ok; known_is = known.known } in
    let is = tag_memory c.in_err-judge_tags.field-0.0 (let k = rw p.1 at h in let q = p.2 in cc) in
    tags_listed says (rw c.deref.ensures.value at (c.in_err-judge_tags.ensures.memory (ap Err is)))

pub returns-in_err-judge_geometry-clause-memory : goal.returns-in_err-judge_geometry-clause-memory
returns-in_err-judge_geometry-clause-memory c = λ h.
    let p = err_from_is_err_and c.from_residual-in_err-judge_geometry.result c.from_residual-in_err-judge_geometry.ensures.1 in
    let is = geometry_memory c.in_err-judge_geometry.field-0.0 (let k = rw p.1 at h in let q = p.2 in cc) in
    absurd (c.in_err-judge_geometry.ensures.never (ap Err is))
