use Rattle.std.proofs.Common.{◌+◌, length, ap, ◌∙◌}
use Rattle.mvt_wire.specs.Fields.{Ahead}
use Rattle.mvt_places.specs.Messages.{message_of}
use Rattle.mvt_places.proofs.AroundLemmas.{keys_start}
use Rattle.mvt_places.proofs.field_rows.keys_of.Goals as goal

pub loop-field-init : goal.loop-field-init
loop-field-init c =
    let same = c.into_iter-field-iterator.ensures.into_iter_gives in
    keys_start (message_of c.args.layer.now) _ _ c.new-keys.ensures.items
    (ap (λ (a : Ahead). a.to_come) same ∙ c.new-field-items.ensures.fields)
    (ap (λ (a : Ahead). a.to_come.rest_at + length a.to_come.rest) same ∙ c.new-field-items.ensures.place)
