use Rattle.std.proofs.Common.{◌≡◌, ◌++◌, ◌∷◌, [], refl, ap, arith, ◌∙◌}
use Rattle.std.proofs.lemmas.Result.{err_from_is_err_and}
use Rattle.mvt_attrs.specs.FirstUses.{lent}
use Rattle.mvt_wire.specs.Field.{entry_of}
use Rattle.mvt_wire.specs.Fields.{Ahead}
use Rattle.mvt_feature.proofs.FeatureLaws.{walks_start, walks_step}
use Rattle.mvt_message.proofs.HeldLemmas.{features_end, features_few}
use Rattle.mvt_message.proofs.features.visit_features.Goals as goal

pub loop-field-init : goal.loop-field-init
loop-field-init g c = (
  [],
  walks_start _ _ (ap (λ (a : Ahead). a.to_come) c.into_iter-field-iterator.ensures.into_iter_gives ∙ c.new-field-items.ensures.fields)
      (rw c.into_iter-field-iterator.ensures.into_iter_gives c.new-field-items.ensures.place),
  λ items held are has. record { features = []; so_far = (refl, tt); counted = refl; has = has },
  c.new-keys.ensures,
)

pub visit_field-requires : goal.visit_field-requires
visit_field-requires g c =
    let (items, held, are, has) = c.requires.held in
    let so_far = c.loop-field.invariant.2 items held are has in
    let ends = (rw c.in-Ok.is at c.in-Some.ensures.steps).0.1 in
    let walk = c.loop-field.invariant.1 in
    λ k. (
      (refl, tt),
      (
        features_few (entry_of c.in-Ok.field) so_far c.args.payload.now c.loop-field.field-iterator.to_come c.loop-field.invariant.1
            c.requires.small,
        omega (arith, ends.1, walk.place, walk.bound, c.requires.fits),
      ),
    )

pub loop-field-preserved : goal.loop-field-preserved
loop-field-preserved g c =
    let done = c.loop-field.invariant.0 in
    let keys : c.loop-field.keys ≡ lent c.args.keys.now = c.loop-field.invariant.3 in
    let one = c.in_ok-count-in-Ok.ensures in (
      done ++ entry_of c.in-Ok.field ∷ [],
      walks_step _ _ _ _ _ c.loop-field.invariant.1 (rw c.in-Ok.is at c.in-Some.ensures.steps).0,
      λ items held are has. (rw keys at one.ok) items held done are (c.loop-field.invariant.2 items held are has),
      one.same ∙ keys,
    )

pub returns-in_err-count-in-Ok-clause-err :
    goal.returns-in_err-count-in-Ok-clause-err
returns-in_err-count-in-Ok-clause-err g c = λ items held are has.
    let p = err_from_is_err_and c.from_residual.result c.from_residual.ensures.1 in
    let done = c.loop-field.invariant.0 in
    let next = c.next.new.self.to_come in
    let keys : c.loop-field.keys ≡ lent c.args.keys.now = c.loop-field.invariant.3 in
    let steps = (rw c.in-Ok.is at c.in-Some.ensures.steps).0 in
    let all = (walks_step c.args.payload.now _ next done c.in-Ok.field c.loop-field.invariant.1 steps).fields in
    let reported = (rw keys at c.in_err-count-in-Ok.ensures.err) items held done next.fields are
    (c.loop-field.invariant.2 items held are has) in
    rw (p.1, p.2, all) reported

pub returns-then-count-features-clause-ok : goal.returns-then-count-features-clause-ok
returns-then-count-features-clause-ok g c = λ items held are has.
    let so_far = c.loop-field.invariant.2 items held are has in
    (features_end c.loop-field.invariant.1 so_far c.if-count-features.true c.requires.features).so_far.0

pub returns-then-count-features-clause-features : goal.returns-then-count-features-clause-features
returns-then-count-features-clause-features g c = λ items held are has.
    let so_far = c.loop-field.invariant.2 items held are has in
    let whole = features_end c.loop-field.invariant.1 so_far c.if-count-features.true c.requires.features in
    (whole.features, whole.so_far.1, whole.has)
