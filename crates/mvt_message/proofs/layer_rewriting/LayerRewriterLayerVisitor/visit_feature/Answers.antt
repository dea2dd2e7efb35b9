use Rattle.std.proofs.lemmas.Result.{on_ok_weaker}
use Rattle.mvt_message.proofs.layer_rewriting.LayerRewriterLayerVisitor.visit_feature.Goals as goal

pub returns-clause-feature : goal.returns-clause-feature
returns-clause-feature g c = λ items held payloads features are has.
    on_ok_weaker c.write_feature.result (λ (f, is, written, told). (f, is, (written, told)))
    (c.write_feature.ensures.feature items held features has.1 has.0)
