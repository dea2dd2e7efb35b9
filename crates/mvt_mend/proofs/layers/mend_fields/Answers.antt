use Rattle.std.proofs.Common.{ap, arith, refl, ◌∙◌}
use Rattle.mvt_wire.proofs.WireLaws.{split_function_count}
use Rattle.mvt_wire.specs.Fields.{Ahead}
use Rattle.mvt_mend.proofs.FieldsLemmas.{fields_numbered}
use Rattle.mvt_mend.proofs.layers.mend_fields.Goals as goal

pub loop-field-init : goal.loop-field-init
loop-field-init c =
    let start = ap (λ (a : Ahead). a.to_come) c.into_iter-field-iterator.ensures.into_iter_gives ∙ c.new-field-items.ensures.fields in
    rw start (record {
      numbered = fields_numbered c.args.payload.now;
      few = omega (arith, split_function_count c.args.payload.now);
      bytes = refl;
      changes = refl;
      cause = refl;
      left = refl;
    })
