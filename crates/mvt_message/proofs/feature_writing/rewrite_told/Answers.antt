use Rattle.std.proofs.Common.{subst, sym}
use Rattle.mvt_attrs.proofs.AttrsLaws.{uses_by_what_is_used}
use Rattle.mvt_geometry.specs.Drawing.{Draws}
use Rattle.mvt_feature.proofs.FeatureLaws.{feature_or_fault_clean}
use Rattle.mvt_message.proofs.feature_writing.rewrite_told.Goals as goal

pub returns-in-Some-clause-ok : goal.returns-in-Some-clause-ok
returns-in-Some-clause-ok g c = λ held uses.
    let (f, is, rewritten, id, kind, drawn) = (rw c.in-Some.is at c.in_ok-known.ensures.feature) held uses in
    feature_or_fault_clean c.args.payload.now c.args.payload_at c.args.keys.now held f is

pub returns-in_ok-tell_judged-in-None-clause-ok : goal.returns-in_ok-tell_judged-in-None-clause-ok
returns-in_ok-tell_judged-in-None-clause-ok g c = λ held uses.
    (rw c.in_ok-known.ensures.same at c.in_ok-known-in-None.ensures.ok) held (c.in_ok-known.ensures.uses held uses)

pub returns-in_ok-tell_judged-in-None-clause-feature : goal.returns-in_ok-tell_judged-in-None-clause-feature
returns-in_ok-tell_judged-in-None-clause-feature g c = λ items held features told uses.
    let (parts, begun, given) = rw c.in-None.is at c.in_ok-known.ensures.told in
    let same = (rw c.in-None.is at c.in_ok-known.ensures.unused) held uses in
    let unwritten = rw c.in-None.is at c.in_ok-known.ensures.unwritten in
    let with_keys = rw c.in_ok-known.ensures.same at c.in_ok-known-in-None.ensures.feature in
    let with_out = rw unwritten at with_keys in
    let (f, is, rewritten, id, draws) = with_out held (c.in_ok-known.ensures.uses held uses) in (
      f,
      is,
      (uses_by_what_is_used f.attributes c.args.uses.now _ _ same rewritten.0, rewritten.1),
      id,
      draws.same_kind,
      (
        c.begin_feature.new.self,
        c.begin_feature.ensures items features c.args.visitor.now parts begun told given,
        c.in_ok-tell_judged-in-None.ensures f.geometry
            (subst (λ i. Draws c.in_ok-known-in-None.known.kind i f.geometry) (sym c.integers.ensures) draws),
      ),
    )
