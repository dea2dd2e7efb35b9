-- Notes and findings as rows of C, and the texts of their kinds.
use Rattle.std.specs.Prelude.{◌≡◌, ℕ, ◌-◌, ◌^◌, ◌==◌, List, [], ◌∷◌, ◌++◌, pos, map, min, bytes_eq, if◌then◌else◌}
use Rattle.mvt_base.specs.declared.TheConstants.{LIMIT}
use Rattle.mvt_feature.specs.declared.cause.Cause.{Cause}
use Rattle.mvt_feature.specs.Causes.{cause_number}
use Rattle.mvt_tile_value.specs.declared.finding.Finding.{Finding}
use Rattle.mvt_tile_value.specs.declared.finding.Finding.TheVariants as found
use Rattle.mvt_tile_value.specs.declared.note.Note.{Note}
use Rattle.mvt_tile_value.specs.declared.note.Note.TheVariants as noted
use Rattle.mvt_tile_value.specs.declared.survey.Survey.{Survey}
use Rattle.mvt_tile_value.specs.declared.tile.Tile.{Tile}
use Rattle.mvt_tile_value.specs.CanonicalTiles.{canonical}
use Rattle.mvt_tile_value.specs.Lint.{findings_of}
use Rattle.mvt_tile_value.specs.Survey.{survey_of}
use Rattle.mvt_tile_value.specs.Tiles.{IsTile}
use Rattle.mvt_places.specs.Sentences.{cause_sentence}
use Rattle.mvt_rows.specs.Tables.{truth_number}
use Rattle.mvt_view.specs.declared.kinds.FindingKind.{FindingKind}
use Rattle.mvt_view.specs.declared.kinds.NoteKind.{NoteKind}
use Rattle.mvt_view.specs.Kinds.{finding_number, finding_sentence, kind_of_finding, kind_of_note, note_number, note_sentence}
use Rattle.mvt_c.specs.declared.remarks.FindingRow.{FindingRow}
use Rattle.mvt_c.specs.declared.remarks.NoteRow.{NoteRow}
use Rattle.mvt_c.specs.declared.remarks.Summary.{Summary}

-- a note at a feature of a layer; what it hasn't is 0
abbrev pub note_at : Note → ℕ → ℕ → NoteRow
note_at note layer feature = record {
  kind = note_number (kind_of_note note);
  version = 0;
  layer = layer;
  feature = feature;
  ring = 0;
  earlier = 0;
}

abbrev pub row_of_note : Note → NoteRow
row_of_note noted.NoLayers = note_at noted.NoLayers 0 0
row_of_note (noted.Foreign layer version) = record (note_at (noted.Foreign layer version) layer 0) { version = version }
row_of_note (noted.NoFeatures layer) = note_at (noted.NoFeatures layer) layer 0
row_of_note (noted.RepeatedId layer feature earlier) =
    record (note_at (noted.RepeatedId layer feature earlier) layer feature) { earlier = earlier }
row_of_note (noted.FlatRing layer feature ring) = record (note_at (noted.FlatRing layer feature ring) layer feature) { ring = ring }
row_of_note (noted.ClosedTwice layer feature ring) =
    record (note_at (noted.ClosedTwice layer feature ring) layer feature) { ring = ring }

-- the note that a row tells
abbrev pub note_of_row : NoteRow → Note
note_of_row row =
    if row.kind == 1 then noted.NoLayers
    else if row.kind == 2 then noted.Foreign row.layer row.version
    else if row.kind == 3 then noted.NoFeatures row.layer
    else if row.kind == 4 then noted.RepeatedId row.layer row.feature row.earlier
    else if row.kind == 5 then noted.FlatRing row.layer row.feature row.ring
    else noted.ClosedTwice row.layer row.feature row.ring

-- a finding at a feature of a layer; what it hasn't is 0
abbrev pub finding_at : Finding → ℕ → ℕ → FindingRow
finding_at finding layer feature = record {
  kind = finding_number (kind_of_finding finding);
  has_feature = 1;
  layer = layer;
  feature = feature;
  attribute = 0;
  x = pos 0;
  y = pos 0;
}

abbrev pub row_of_finding : Finding → FindingRow
row_of_finding (found.ZeroExtent layer) = record (finding_at (found.ZeroExtent layer) layer 0) { has_feature = 0 }
row_of_finding (found.NoGeometry layer feature) = finding_at (found.NoGeometry layer feature) layer feature
row_of_finding (found.UnknownGeometry layer feature) = finding_at (found.UnknownGeometry layer feature) layer feature
row_of_finding (found.FarPoint layer feature x y) = record (finding_at (found.FarPoint layer feature x y) layer feature) { x = x; y = y }
row_of_finding (found.LargeId layer feature) = finding_at (found.LargeId layer feature) layer feature
row_of_finding (found.LargeNumber layer feature attribute) =
    record (finding_at (found.LargeNumber layer feature attribute) layer feature) { attribute = attribute }

-- the finding that a row tells
abbrev pub finding_of_row : FindingRow → Finding
finding_of_row row =
    if row.kind == 1 then found.ZeroExtent row.layer
    else if row.kind == 2 then found.NoGeometry row.layer row.feature
    else if row.kind == 3 then found.UnknownGeometry row.layer row.feature
    else if row.kind == 4 then found.FarPoint row.layer row.feature row.x row.y
    else if row.kind == 5 then found.LargeId row.layer row.feature
    else found.LargeNumber row.layer row.feature row.attribute

-- what a survey says, as C has it; a count beyond 64 bits is told as the largest of them
pub record IsSummary (survey : Survey) (summary : Summary) : Type 0 where
  pub layers : summary.layers ≡ survey.layers
  pub features : summary.features ≡ min survey.features (2 ^ 64 - 1)
  pub is_canonical : summary.is_canonical ≡ truth_number survey.is_canonical
  pub notes : summary.notes.now ≡ map row_of_note survey.notes

-- the bytes are a tile, and this is what `mvt check` says of it
abbrev pub IsSurveyed : List ℕ → Summary → Type 0
IsSurveyed input summary =
    (tile : Tile) × IsTile LIMIT input tile × IsSummary (survey_of tile (bytes_eq input (canonical tile))) summary

-- the bytes are a tile, and these are the rows of its findings
abbrev pub AreFindingsOf : List ℕ → List FindingRow → Type 0
AreFindingsOf input rows = (tile : Tile) × IsTile LIMIT input tile × (rows ≡ map row_of_finding (findings_of tile))

-- the sentence of a number, with a zero at the end
abbrev pub IsCauseText : ℕ → List ℕ → Type 0
IsCauseText number text = (cause : Cause) × (cause_number cause ≡ number) × (text ≡ cause_sentence cause ++ 0 ∷ [])

abbrev pub IsNoteText : ℕ → List ℕ → Type 0
IsNoteText number text = (kind : NoteKind) × (note_number kind ≡ number) × (text ≡ note_sentence kind ++ 0 ∷ [])

abbrev pub IsFindingText : ℕ → List ℕ → Type 0
IsFindingText number text = (kind : FindingKind) × (finding_number kind ≡ number) × (text ≡ finding_sentence kind ++ 0 ∷ [])
