use Rattle.std.proofs.Common.{[], ◌∙◌, subst}
use Rattle.std.proofs.lemmas.Result.{on_ok_weaker}
use Rattle.mvt_message.specs.Rewriting.{HasGathered}
use Rattle.mvt_message.proofs.layer_rewriting.LayerRewriterLayerVisitor.visit_keys.Goals as goal

pub returns : goal.returns
returns g c = λ items values has.
    let gathered = c.in_ok-take_values.ensures [] has.1 in
    on_ok_weaker c.place_keys.result (λ written. (written, has.2))
    (c.place_keys.ensures values (subst (HasGathered c.take_values.new.self) (c.taken-values.ensures ∙ has.0) gathered))
