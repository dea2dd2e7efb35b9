use Rattle.std.proofs.Common.{[], sym, subst}
use Rattle.mvt_tile_value.specs.Findings.{AreNotedSoFar}
use Rattle.mvt_tile_value.proofs.survey_builder.canonical_notes.Goals as goal

pub returns : goal.returns
returns c = λ items count.
    let start = subst (λ n. AreNotedSoFar n c.new-notes.result []) (sym count) c.new-notes.ensures in
    let (layer, is, valid, named, canonical, told) = c.in_ok-name.ensures items start in (
      layer,
      is,
      valid,
      named,
      canonical,
      subst (λ n. AreNotedSoFar n c.visit_canonical.new.visitor layer.features) count told,
    )
