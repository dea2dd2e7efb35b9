use Rattle.std.proofs.Common.{◌∙◌}
use Rattle.std.proofs.lemmas.Result.{on_ok_weaker}
use Rattle.mvt_message.proofs.layer_writer.LayerWriter.take_values.Goals as goal

pub returns : goal.returns
returns c = λ values has.
    on_ok_weaker c.take_all.result
    (λ uses. record {
      uses = (has.uses.0, uses);
      no_keys = has.no_keys;
      no_values = c.take_all.ensures.used ∙ has.no_values;
      no_features = has.no_features;
    }) (c.take_all.ensures.uses values has.uses.1)
