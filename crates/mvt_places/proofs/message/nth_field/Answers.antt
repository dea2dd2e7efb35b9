use Rattle.std.proofs.Common.{◌+◌, length, ap, ◌∙◌}
use Rattle.mvt_wire.specs.Fields.{Ahead}
use Rattle.mvt_places.proofs.MessageLemmas.{seek_start}
use Rattle.mvt_places.proofs.message.nth_field.Goals as goal

pub loop-field-init : goal.loop-field-init
loop-field-init c =
    let same = c.into_iter-field-iterator.ensures.into_iter_gives in
    seek_start _ _ _ _ _ (ap (λ (a : Ahead). a.to_come) same ∙ c.new-field-items.ensures.fields)
    (ap (λ (a : Ahead). a.to_come.rest_at + length a.to_come.rest) same ∙ c.new-field-items.ensures.place)
