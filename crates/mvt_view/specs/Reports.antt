-- The report on a tile that was accepted: a line of counts, and a line for each note.
use Rattle.std.specs.Prelude.{ℕ, Bool, true, false, List, ◌++◌, codes}
use Rattle.std.specs.List.{flat_map}
use Rattle.std.specs.Fmt.{decimal}
use Rattle.mvt_tile_value.specs.Survey.{survey_of}
use Rattle.mvt_tile_value.specs.declared.note.Note.{Note}
use Rattle.mvt_tile_value.specs.declared.note.Note.TheVariants.{NoLayers, Foreign, NoFeatures, RepeatedId, FlatRing, ClosedTwice}
use Rattle.mvt_tile_value.specs.declared.survey.Survey.{Survey}
use Rattle.mvt_tile_value.specs.declared.tile.Tile.{Tile}

abbrev pub answer_text : Bool → List ℕ
answer_text true = codes "yes"
answer_text false = codes "no"

-- how many layers and features, and whether the bytes were canonical
unfoldable pub head_line : Survey → List ℕ
head_line survey =
    codes "ok layers " ++ (decimal survey.layers
    ++ (codes " features " ++ (decimal survey.features
    ++ (codes " canonical " ++ (answer_text survey.is_canonical ++ codes "\n")))))

unfoldable pub note_line : Note → List ℕ
note_line NoLayers = codes "note NoLayers\n"
note_line (Foreign layer version) = codes "note Foreign layer " ++ (decimal layer ++ (codes " version " ++ (decimal version ++ codes "\n")))
note_line (NoFeatures layer) = codes "note NoFeatures layer " ++ (decimal layer ++ codes "\n")
note_line (RepeatedId layer feature earlier) =
    codes "note RepeatedId layer "
    ++ (decimal layer ++ (codes " feature " ++ (decimal feature ++ (codes " earlier " ++ (decimal earlier ++ codes "\n")))))
note_line (FlatRing layer feature ring) =
    codes "note FlatRing layer "
    ++ (decimal layer ++ (codes " feature " ++ (decimal feature ++ (codes " ring " ++ (decimal ring ++ codes "\n")))))
note_line (ClosedTwice layer feature ring) =
    codes "note ClosedTwice layer "
    ++ (decimal layer ++ (codes " feature " ++ (decimal feature ++ (codes " ring " ++ (decimal ring ++ codes "\n")))))

abbrev pub survey_lines : Survey → List ℕ
survey_lines survey = head_line survey ++ flat_map note_line survey.notes

abbrev pub report_lines : Tile → Bool → List ℕ
report_lines tile canonical = survey_lines (survey_of tile canonical)
