use Rattle.std.proofs.Common.{◌+◌, ◌*◌, length, ap, ap₂, sym, ◌∙◌}
use Rattle.mvt_wire.specs.Field.{content_of}
use Rattle.mvt_wire.specs.Spelling.{short_field}
use Rattle.mvt_wire.specs.Varint.{short}
use Rattle.mvt_wire.proofs.ShortFieldLemmas.{short_len_varint, short_len_eight, short_len_four}
use Rattle.mvt_wire.proofs.short_fields.short_len.Goals as goal

pub returns-in-Varint : goal.returns-in-Varint
returns-in-Varint c =
    let number = c.args.number in
    ap₂ (λ a b. a + b) (c.varint_len.ensures.len ∙ ap (λ k. length (short (8 * k))) c.from.ensures) c.varint_len-in-Varint.ensures.len
    ∙ short_len_varint number c.in-Varint.content
    ∙ sym (ap (λ p. length (short_field number (content_of p))) c.in-Varint.is)

pub returns-in-I64 : goal.returns-in-I64
returns-in-I64 c =
    let number = c.args.number in
    ap (λ a. a + 8) (c.varint_len-in-I64.ensures.len ∙ ap (λ k. length (short (8 * k + 1))) c.from-in-I64.ensures)
    ∙ short_len_eight number c.in-I64.field-0
    ∙ sym (ap (λ p. length (short_field number (content_of p))) c.in-I64.is)

pub returns-in-I32 : goal.returns-in-I32
returns-in-I32 c =
    let number = c.args.number in
    ap (λ a. a + 4) (c.varint_len-in-I32.ensures.len ∙ ap (λ k. length (short (8 * k + 5))) c.from-in-I32.ensures)
    ∙ short_len_four number c.in-I32.field-0
    ∙ sym (ap (λ p. length (short_field number (content_of p))) c.in-I32.is)
