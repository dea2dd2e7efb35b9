use Rattle.std.proofs.lemmas.Result.{on_ok_weaker}
use Rattle.mvt_feature.proofs.FeatureLaws.{feature_or_fault_there}
use Rattle.mvt_message.proofs.reading.LayerJudgeLayerVisitor.visit_feature.Goals as goal

pub returns-clause-feature : goal.returns-clause-feature
returns-clause-feature c = λ items held payloads features are has.
    on_ok_weaker c.judge_feature.result
    (λ ok. let there = feature_or_fault_there c.args.payload.now c.args.payload_at c.args.keys.now held (ok held are) in
    (there.0, there.1, tt)) c.judge_feature.ensures.ok
