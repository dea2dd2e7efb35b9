use Rattle.std.proofs.Common.{◌≡◌, ap, false, sym, ◌∙◌}
use Rattle.mvt_wire.specs.Field.{content_of, entry_of}
use Rattle.mvt_wire.specs.Split.{Parts}
use Rattle.mvt_mend.specs.Features.{integers_after, is_list}
use Rattle.mvt_mend.proofs.FieldsLemmas.{listed, listing_stops, not_listed, not_whole}
use Rattle.mvt_mend.proofs.features.read_integers.Goals as goal

pub returns-in-Err : goal.returns-in-Err
returns-in-Err c =
    let step = (rw c.in-Err.is at c.in-Some.ensures.steps).0 in not_whole c.args.payload.now _ c.loop-field.invariant.rest step.1

pub returns : goal.returns
returns c =
    let step = c.in-None.ensures.steps.0 in
    listed c.args.payload.now _ _ c.loop-field.invariant.rest step.1
    (sym (sym c.loop-field.invariant.same ∙ ap (λ xs. integers_after c.loop-field.integers.items xs) step.0))

pub returns-then-not-branch : goal.returns-then-not-branch
returns-then-not-branch c =
    let step = (rw c.in-Ok.is at c.in-Some.ensures.steps).0 in
    let read = c.loop-field.integers.items in
    let unlisted : is_list (content_of c.in-Ok.field.payload) ≡ false = sym c.in_ok-append_list-in-Ok.ensures.is ∙ c.if-not-branch.true in
    not_listed c.args.payload.now
    (sym c.loop-field.invariant.same ∙ ap (λ (p : Parts). integers_after read p.fields) step.0
    ∙ listing_stops read (entry_of c.in-Ok.field) c.next.new.self.to_come.fields c.if-field-eq-GEOMETRY.true unlisted)
