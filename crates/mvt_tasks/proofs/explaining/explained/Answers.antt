use Rattle.std.proofs.Common.{ap, ◌∙◌, inl}
use Rattle.std.proofs.lemmas.Result.{IfOk-weaker}
use Rattle.mvt_view.specs.Reports.{survey_lines}
use Rattle.mvt_tasks.specs.Output.{done}
use Rattle.mvt_tasks.proofs.explaining.explained.Goals as goal

pub returns-in-Ok-clause-reply : goal.returns-in-Ok-clause-reply
returns-in-Ok-clause-reply c =
    let (tile, is_tile, valid, is) = c.in-Ok.ensures.survey in
    IfOk-weaker c.reported.result _ _
    (λ reply printed. inl (tile, is_tile, printed ∙ ap (λ survey. done (survey_lines survey)) is)) c.reported.ensures.reply
