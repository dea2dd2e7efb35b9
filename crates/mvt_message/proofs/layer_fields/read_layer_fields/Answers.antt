use Rattle.std.proofs.Common.{[], ◌∷◌, ◌++◌, ◌∙◌, refl, ap, arith}
use Rattle.mvt_wire.specs.Field.{entry_of}
use Rattle.mvt_wire.specs.Fields.{Ahead}
use Rattle.mvt_feature.proofs.FeatureLaws.{walks_start, walks_step}
use Rattle.mvt_message.proofs.HeldLemmas.{values_few}
use Rattle.mvt_message.proofs.ReadLemmas.{header_few, header_start, never_whole}
use Rattle.std.proofs.lemmas.Result.{err_from_is_err_and}
use Rattle.mvt_message.proofs.layer_fields.read_layer_fields.Goals as goal

pub loop-field-init : goal.loop-field-init
loop-field-init g c = (
  [],
  walks_start _ _ (ap (λ (a : Ahead). a.to_come) c.into_iter-field-iterator.ensures.into_iter_gives ∙ c.new-field-items.ensures.fields)
      (rw c.into_iter-field-iterator.ensures.into_iter_gives c.new-field-items.ensures.place),
  λ items has. (
    header_start _ c.new.result c.new.ensures.version c.new.ensures.name c.new.ensures.extent c.new.ensures.keys c.new.ensures.features,
    record { values = []; so_far = (refl, tt); counted = refl; has = has },
  ),
  λ items has before. before,
)

pub take-requires : goal.take-requires
take-requires g c =
    let (items, has) = c.requires.start in
    let ends = (rw c.in-Ok.is at c.in-Some.ensures.steps).0.1 in
    let walk = c.loop-field.invariant.1 in
    λ k. (
      (refl, tt),
      (
        header_few c.loop-field.invariant.1 (c.loop-field.invariant.2 items has).0 c.requires.small,
        (
          values_few c.args.payload.now c.loop-field.field-iterator.to_come (c.loop-field.invariant.2 items has).1
              c.loop-field.invariant.1 c.requires.small,
          (
            omega (arith, ends.0, walk.place, walk.bound, c.requires.fits),
            omega (arith, ends.1, walk.place, walk.bound, c.requires.fits),
          ),
        ),
      ),
    )

pub loop-field-preserved : goal.loop-field-preserved
loop-field-preserved g c =
    let done = c.loop-field.invariant.0 in (
      done ++ entry_of c.in-Ok.field ∷ [],
      walks_step _ _ _ _ _ c.loop-field.invariant.1 (rw c.in-Ok.is at c.in-Some.ensures.steps).0,
      λ items has. c.in_ok-take-in-Ok.ensures.ok items done (c.loop-field.invariant.2 items has),
      λ items has before. c.in_ok-take-in-Ok.ensures.kept items _ (c.loop-field.invariant.2 items has).1.has
          (c.loop-field.invariant.3 items has before),
    )

pub returns-in_err-take-in-Ok-clause-broken : goal.returns-in_err-take-in-Ok-clause-broken
returns-in_err-take-in-Ok-clause-broken g c = λ whole.
    let p = err_from_is_err_and c.from_residual.result c.from_residual.ensures.1 in
    let (items, has) = c.requires.start in
    let done = c.loop-field.invariant.0 in
    let next = c.next.new.self.to_come in
    let steps = (rw c.in-Ok.is at c.in-Some.ensures.steps).0 in
    let all = (walks_step c.args.payload.now _ next done c.in-Ok.field c.loop-field.invariant.1 steps).fields in
    rw (p.1, p.2, all) (c.in_err-take-in-Ok.ensures.broken items done next.fields (c.loop-field.invariant.2 items has))

pub returns-in-Err-clause-broken : goal.returns-in-Err-clause-broken
returns-in-Err-clause-broken g c = λ whole.
    absurd (never_whole c.next.new.self.to_come c.args.payload_at c.loop-field.invariant.1
    (rw c.in-Err.is at c.in-Some.ensures.steps).0 whole)
