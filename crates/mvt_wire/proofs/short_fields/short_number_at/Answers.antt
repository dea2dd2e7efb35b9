use Rattle.std.proofs.Common.{◌≡◌, ◌+◌, ◌-◌, ◌*◌, length, ap, subst, arith}
use Rattle.std.specs.Prelude.{slice_range}
use Rattle.mvt_wire.specs.Field.{varint, IsField, content_of}
use Rattle.mvt_wire.specs.Spelling.{short_field}
use Rattle.mvt_wire.specs.Varint.{short}
use Rattle.mvt_wire.proofs.ShortFieldLemmas.{stands_short}
use Rattle.mvt_wire.proofs.SpellingLemmas.{length-short_field}
use Rattle.mvt_wire.proofs.short_fields.short_number_at.Goals as goal

pub returns-in-Varint-clause-field : goal.returns-in-Varint-clause-field
returns-in-Varint-clause-field c =
    let next = rw c.in-Ok-Some.field-0-is at c.in-Ok-Some.ensures.next in
    let n = c.in-Varint.content in
    let content : content_of c.in-Ok-Some.field.payload ≡ varint n = ap content_of c.in-Varint.is in
    let field : IsField (slice_range c.args.source.now c.args.at c.in-Ok-Some.after) c.args.number (varint n) =
    subst (λ k. IsField (slice_range c.args.source.now c.args.at c.in-Ok-Some.after) k (varint n)) c.if-field-number.true
    (subst (IsField (slice_range c.args.source.now c.args.at c.in-Ok-Some.after) c.in-Ok-Some.field.number) content next.2.field) in
    let len : c.in-Ok-Some.after - c.args.at ≡ length (short_field c.args.number (varint n)) =
    let tag : length (short (8 * c.from.result)) ≡ length (short (8 * c.args.number + 0)) =
    ap (λ k. length (short k)) (let from = c.from.ensures in omega arith) in
    omega (
      arith,
      tag,
      c.if-after-at.true,
      c.varint_len.ensures.len,
      c.varint_len-then-field-number.ensures.len,
      length-short_field
          c.args.number (varint n),
    ) in
    stands_short c.args.source.now c.args.at c.in-Ok-Some.after c.args.number (varint n) (λ k. omega (arith, c.type_inv.source k))
    next.0 next.1 field len
