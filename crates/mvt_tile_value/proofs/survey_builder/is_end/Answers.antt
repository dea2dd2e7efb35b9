use Rattle.mvt_tile_value.proofs.SurveyLemmas.{end_there, end_nowhere}
use Rattle.mvt_tile_value.proofs.survey_builder.is_end.Goals as goal

pub returns-in-Some : goal.returns-in-Some
returns-in-Some c = λ input front is. end_there input front c.in-Some.rest.now c.is_empty.result (rw c.in-Some.is at is) c.is_empty.ensures

pub returns-in-None : goal.returns-in-None
returns-in-None c = λ input front is. end_nowhere input front (rw c.in-None.is at is)
