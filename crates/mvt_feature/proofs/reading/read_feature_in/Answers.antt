use Rattle.std.proofs.Common.{refl}
use Rattle.std.proofs.lemmas.Result.{err_from_is_err_and}
use Rattle.mvt_feature.proofs.FeatureLemmas.{Says, known_reported, tags_reported, drawing_reported, feature_clean, feature_from}
use Rattle.mvt_feature.proofs.reading.read_feature_in.Goals as goal

pub returns-in_err-known-clause-err : goal.returns-in_err-known-clause-err
returns-in_err-known-clause-err c =
    let p = err_from_is_err_and c.from_residual.result c.from_residual.ensures.1 in
    rw (p.1, p.2)
    (known_reported c.args.payload.now c.args.payload_at c.args.keys.now c.args.values.now c.in_err-known.field-0.0
    c.in_err-known.ensures.err)

pub returns-in_err-attributes-clause-err : goal.returns-in_err-attributes-clause-err
returns-in_err-attributes-clause-err c =
    let p = err_from_is_err_and c.from_residual-in_err-attributes.result c.from_residual-in_err-attributes.ensures.1 in
    let known = c.in_ok-known.ensures in
    let says : Says c.args.payload.now c.args.payload_at _ _ _ = record { whole = known.whole; clean = known.ok; known_is = known.known } in
    rw (p.1, p.2) (tags_reported says c.args.keys.now c.args.values.now c.in_err-attributes.field-0.0
    (rw c.deref.ensures.value at c.in_err-attributes.ensures.err))

pub returns-in_err-geometry-clause-err : goal.returns-in_err-geometry-clause-err
returns-in_err-geometry-clause-err c =
    let p = err_from_is_err_and c.from_residual-in_err-geometry.result c.from_residual-in_err-geometry.ensures.1 in
    let known = c.in_ok-known.ensures in
    let says : Says c.args.payload.now c.args.payload_at _ _ _ = record { whole = known.whole; clean = known.ok; known_is = known.known } in
    rw (p.1, p.2) (drawing_reported says c.args.keys.now c.args.values.now c.in_err-geometry.field-0.0
    (rw c.deref.ensures.value at c.in_ok-attributes.ensures.ok)
    (rw c.deref-2.ensures.value at c.in_err-geometry.ensures.err))

pub returns-clause-feature : goal.returns-clause-feature
returns-clause-feature c =
    let known = c.in_ok-known.ensures in
    let says : Says c.args.payload.now c.args.payload_at _ _ _ = record { whole = known.whole; clean = known.ok; known_is = known.known } in
    feature_from says c.args.keys.now c.args.values.now _ refl
    (rw (c.new.ensures, ← c.deref.ensures.value) c.in_ok-attributes.ensures.attributes)
    (rw (← c.deref-2.ensures.value) c.in_ok-geometry.ensures.drawn)

pub returns-clause-ok : goal.returns-clause-ok
returns-clause-ok c =
    let known = c.in_ok-known.ensures in
    let says : Says c.args.payload.now c.args.payload_at _ _ _ = record { whole = known.whole; clean = known.ok; known_is = known.known } in
    feature_clean says c.args.keys.now c.args.values.now
    (rw c.deref.ensures.value at c.in_ok-attributes.ensures.ok)
    (rw c.deref-2.ensures.value at c.in_ok-geometry.ensures.ok)
