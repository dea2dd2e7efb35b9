use Rattle.std.proofs.Common.{◌++◌, refl, ap, ◌∙◌}
use Rattle.std.proofs.lemmas.Result.{on_ok_weaker}
use Rattle.mvt_message.proofs.RewriteLemmas.{appended}
use Rattle.mvt_message.proofs.layer_writer.LayerWriter.append_layer.Goals as goal

pub returns-clause-ok : goal.returns-clause-ok
returns-clause-ok c =
    on_ok_weaker c.append_tail.result
    (λ is. appended c.args.out.now.items _ _ _ _ _ _ _ c.in_ok-put_head.ensures.ok
    (c.in_ok-extend_from_slice.ensures.items ∙ ap (λ b. c.put_head.new.out.items ++ b) c.deref.ensures.value) is refl)
    c.append_tail.ensures.ok
