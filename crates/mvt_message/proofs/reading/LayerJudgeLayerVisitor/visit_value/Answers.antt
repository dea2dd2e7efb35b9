use Rattle.std.proofs.lemmas.Result.{on_ok_weaker}
use Rattle.mvt_feature.proofs.FeatureLaws.{value_or_fault_there}
use Rattle.mvt_message.proofs.reading.LayerJudgeLayerVisitor.visit_value.Goals as goal

pub returns-clause-value : goal.returns-clause-value
returns-clause-value c = λ items values has.
    on_ok_weaker c.judge_value.result
    (λ clean. let there = value_or_fault_there c.args.payload.now c.args.payload_at c.args.tag_at clean in (there.0, there.1, tt))
    c.judge_value.ensures.ok
