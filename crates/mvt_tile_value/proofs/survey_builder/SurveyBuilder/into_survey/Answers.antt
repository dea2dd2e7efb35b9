use Rattle.std.proofs.Common.{refl, ap, sym, ◌∙◌, bytes_eq}
use Rattle.mvt_tile_value.proofs.SurveyLemmas.{noted_end, surveyed}
use Rattle.mvt_tile_value.proofs.WritingLemmas.{canonical_is}
use Rattle.mvt_tile_value.proofs.survey_builder.SurveyBuilder.into_survey.Goals as goal

pub returns : goal.returns
returns c = λ input tile found count.
    rw c.new.ensures
    (surveyed tile c.args.layers c.args.self.features c.is_end.result _ _ count found.features
    (c.is_end.ensures input _ found.left ∙ ap (bytes_eq input) (sym (canonical_is tile tile.items refl)))
    (noted_end tile c.args.layers _ c.args.self.notes.items _ count refl found.notes c.in_ok-note_if.ensures))
