use Rattle.std.proofs.Common.{length, Err, ap, ◌∙◌, arith, length-append}
use Rattle.mvt_wire.proofs.WireLaws.{short_lengths_bytes}
use Rattle.mvt_message.specs.CanonicalItems.{canonical_item}
use Rattle.mvt_tile_value.specs.declared.numbers.tile.TheConstants.{LAYERS}
use Rattle.mvt_tile_value.proofs.WritingLemmas.{written, field_of, written_after}
use Rattle.mvt_tile_value.proofs.encoding.encode_more.Goals as goal

pub returns-in-Ok : goal.returns-in-Ok
returns-in-Ok c = λ items are.
    c.encode_payload.ensures items c.args.item.now are (c.deref.ensures.value ∙ c.in-Ok.ensures.put.0)

pub returns-in-Err-TooLarge : goal.returns-in-Err-TooLarge
returns-in-Err-TooLarge c = λ items are.
    let large = c.in-Err-TooLarge.ensures.too_large (ap Err c.in-Err-TooLarge.field-0-is) in
    omega (
      arith,
      large,
      short_lengths_bytes LAYERS (canonical_item c.args.item.now),
      ap length (written_after items c.args.item.now),
      length-append (written items) (field_of c.args.item.now),
    )
