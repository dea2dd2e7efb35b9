use Rattle.std.proofs.Common.{refl, ap}
use Rattle.mvt_wire.specs.Field.{content_of, entry_of}
use Rattle.mvt_tile.proofs.JudgeLemmas.{field_wrong, not_bytes}
use Rattle.mvt_tile.proofs.walking.layer_in.Goals as goal

pub returns-in-Len-clause-place : goal.returns-in-Len-clause-place
returns-in-Len-clause-place c =
    record { is_layer = c.if-field-ne-LAYERS.false; holds = ap content_of c.in-Len.is; payload_at_is = refl; tag_at_is = refl }

pub returns-in-Varint-clause-fault : goal.returns-in-Varint-clause-fault
returns-in-Varint-clause-fault c =
    rw c.outer.ensures
    (field_wrong c.args.offset (entry_of c.args.field.now) (content_of c.args.field.now.payload) c.if-field-ne-LAYERS.false refl
    (not_bytes c.args.field.now.payload c.in-Varint.is))
