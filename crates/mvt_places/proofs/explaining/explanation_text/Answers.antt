use Rattle.std.proofs.Common.{◌∙◌}
use Rattle.mvt_places.proofs.ExplanationLemmas.{explained}
use Rattle.mvt_places.proofs.explaining.explanation_text.Goals as goal

pub returns : goal.returns
returns c =
    let at = c.locate.ensures in
    c.in_ok-text_at.ensures ∙ explained _ _ _ _ _ _ _ _ _ at.name at.id at.start at.end
