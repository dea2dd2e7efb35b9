use Rattle.std.proofs.Common.{[], ◌∙◌, sym}
use Rattle.std.proofs.lemmas.Result.{on_ok_weaker}
use Rattle.mvt_message.proofs.RewriteLemmas.{keys_none, values_none, written_none}
use Rattle.mvt_message.proofs.layer_writer.LayerWriter.place_keys.Goals as goal

pub returns : goal.returns
returns c = λ values has.
    on_ok_weaker c.take_all.result
    (λ uses. record {
      uses = (rw c.in_ok-texts.ensures at uses, has.uses.1);
      keys_are = c.take_all.ensures.used ∙ has.no_keys ∙ sym keys_none;
      values_are = has.no_values ∙ sym values_none;
      written = written_none _ has.no_features;
    }) (c.take_all.ensures.uses [] has.uses.0)
