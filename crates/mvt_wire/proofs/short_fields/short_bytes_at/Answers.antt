use Rattle.std.proofs.Common.{◌≡◌, ◌-◌, length, refl, ap, subst, ◌∙◌, arith}
use Rattle.std.specs.Prelude.{slice_range}
use Rattle.mvt_wire.specs.Field.{bytes, IsField, content_of}
use Rattle.mvt_wire.specs.Spelling.{short_field}
use Rattle.mvt_wire.proofs.ShortFieldLemmas.{stands_short}
use Rattle.mvt_wire.proofs.short_fields.short_bytes_at.Goals as goal

pub returns-in-Len-clause-field : goal.returns-in-Len-clause-field
returns-in-Len-clause-field c =
    let next = rw c.in-Ok-Some.field-0-is at c.in-Ok-Some.ensures.next in
    let d = c.in-Len.bytes.now in
    let content : content_of c.in-Ok-Some.field.payload ≡ bytes d = ap content_of c.in-Len.is in
    let field : IsField (slice_range c.args.source.now c.args.at c.in-Ok-Some.after) c.args.number (bytes d) =
    subst (λ n. IsField (slice_range c.args.source.now c.args.at c.in-Ok-Some.after) n (bytes d)) c.if-field-number.true
    (subst (IsField (slice_range c.args.source.now c.args.at c.in-Ok-Some.after) c.in-Ok-Some.field.number) content next.2.field) in
    let len : c.in-Ok-Some.after - c.args.at ≡ length (short_field c.args.number (bytes d)) = c.if-after-at.true ∙ c.field_len.ensures d
    refl in
    stands_short c.args.source.now c.args.at c.in-Ok-Some.after c.args.number (bytes d) (λ k. omega (arith, c.type_inv.source k)) next.0
    next.1 field len
