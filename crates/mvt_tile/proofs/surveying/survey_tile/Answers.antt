use Rattle.std.proofs.Common.{arith, sym, ap, ◌∙◌, bytes_eq, refl}
use Rattle.std.proofs.lemmas.List.{take_all}
use Rattle.mvt_tile_value.specs.CanonicalTiles.{canonical}
use Rattle.mvt_tile_value.specs.Survey.{survey_of}
use Rattle.mvt_tile.proofs.surveying.survey_tile.Goals as goal

pub returns-clause-survey : goal.returns-clause-survey
returns-clause-survey c =
    let (tile, is, valid, has) = c.in_ok-count.ensures.tile _ (refl, c.new.ensures) in (
      tile,
      is,
      valid,
      c.in_ok-into_survey.ensures _ tile has.1 (sym has.0)
          ∙ ap (λ b. survey_of tile (bytes_eq b (canonical tile))) (take_all c.min.result c.args.bytes.now (omega (arith, is.small))),
    )
