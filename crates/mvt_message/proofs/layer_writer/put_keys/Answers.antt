use Rattle.std.proofs.Common.{◌++◌, ap, sym, ◌∙◌}
use Rattle.mvt_wire.specs.Field.{bytes}
use Rattle.mvt_wire.specs.Spelling.{short_field}
use Rattle.mvt_message.specs.CanonicalItems.{key_field}
use Rattle.mvt_message.proofs.PutLemmas.{list_step}
use Rattle.mvt_message.proofs.layer_writer.put_keys.Goals as goal

pub loop-key-preserved : goal.loop-key-preserved
loop-key-preserved c =
    let put = c.in_ok-put_field.ensures.ok
    ∙ ap (λ b. c.loop-key.out.items ++ short_field 3 (bytes b)) (c.as_bytes.ensures.value ∙ c.as_str.ensures) in
    list_step key_field c.args.keys.now c.loop-key.key-index c.args.out.now.items c.loop-key-test.true (sym c.key-item.is)
    c.loop-key.invariant put
