use Rattle.std.proofs.Common.{◌++◌, ap, sym, ◌∙◌}
use Rattle.mvt_tile_value.proofs.ComparingLemmas.{after_field}
use Rattle.mvt_tile_value.proofs.comparing.after_item.Goals as goal

pub returns : goal.returns
returns c = λ input front is.
    let body = c.args.head.now ++ (c.args.features.now ++ c.args.tail.now) in
    after_field input front c.as_slice.result.now c.args.head.now c.args.features.now c.args.tail.now _ c.after.result
    (c.in_ok-field.ensures body (sym c.in_ok-len_of.ensures) ∙ ap (λ f. f ++ body) (sym c.as_slice.ensures.value))
    (c.after.ensures input _ (c.after-from_tail.ensures input _
    (c.after-from_features.ensures input _ (c.after-from_head.ensures input front is))))
