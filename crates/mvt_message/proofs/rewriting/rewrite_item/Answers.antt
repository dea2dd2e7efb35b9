use Rattle.std.proofs.Common.{◌++◌, refl, sym, ap, ◌∙◌}
use Rattle.std.proofs.Math.Facts.{Fits-lt-pow}
use Rattle.mvt_message.specs.declared.item.Item.TheVariants.{Foreign, Layer}
use Rattle.mvt_message.proofs.MessageLaws.{item_or_fault_clean}
use Rattle.mvt_message.proofs.RewriteLemmas.{canonical_foreign}
use Rattle.mvt_message.proofs.ValidLemmas.{item_valid}
use Rattle.mvt_message.proofs.rewriting.rewrite_item.Goals as goal

pub returns-in-Some-clause-item : goal.returns-in-Some-clause-item
returns-in-Some-clause-item c =
    let payload = c.args.payload.now in
    let version = c.in-Some.field-0 in (
      Foreign version payload,
      c.in-Some.ensures.foreign,
      item_valid payload _ (λ k. Fits-lt-pow (c.type_inv.payload k)) c.in-Some.ensures.foreign,
      refl,
      c.in_ok-extend_from_slice.ensures.items ∙ ap (λ b. c.args.out.now.items ++ b) (sym (canonical_foreign version payload)),
    )

pub returns-in_ok-append_copied-in-Ok-clause-ok : goal.returns-in_ok-append_copied-in-Ok-clause-ok
returns-in_ok-append_copied-in-Ok-clause-ok c =
    let (layer, is, valid, name, canonical) = c.in-Ok.ensures in
    item_or_fault_clean c.args.payload.now c.args.payload_at c.args.tag_at (Layer layer) is
