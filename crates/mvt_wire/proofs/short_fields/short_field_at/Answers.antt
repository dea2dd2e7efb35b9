use Rattle.std.proofs.Common.{arith, ◌∙◌}
use Rattle.mvt_wire.specs.Field.{content_of}
use Rattle.mvt_wire.proofs.ShortFieldLemmas.{stands_short}
use Rattle.mvt_wire.proofs.short_fields.short_field_at.Goals as goal

pub returns-else-after-at-clause-field : goal.returns-else-after-at-clause-field
returns-else-after-at-clause-field c =
    let next = rw c.in-Ok-Some.field-0-is at c.in-Ok-Some.ensures.next in
    stands_short c.args.source.now c.args.at c.in-Ok-Some.after c.in-Ok-Some.field.number (content_of c.in-Ok-Some.field.payload)
    (λ k. omega (arith, c.type_inv.source k)) next.0 next.1 next.2.field (c.if-after-at.false ∙ c.short_len.ensures)
