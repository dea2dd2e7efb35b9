-- The kinds of notes and findings: their numbers in mvt.h, and what each means in plain words.
use Rattle.std.specs.Prelude.{ℕ, List, codes}
use Rattle.mvt_tile_value.specs.declared.note.Note.{Note}
use Rattle.mvt_tile_value.specs.declared.note.Note.TheVariants as notes
use Rattle.mvt_tile_value.specs.declared.finding.Finding.{Finding}
use Rattle.mvt_tile_value.specs.declared.finding.Finding.TheVariants as findings
use Rattle.mvt_view.specs.declared.kinds.NoteKind.{NoteKind}
use Rattle.mvt_view.specs.declared.kinds.NoteKind.TheVariants.{NoLayers, Foreign, NoFeatures, RepeatedId, FlatRing, ClosedTwice}
use Rattle.mvt_view.specs.declared.kinds.FindingKind.{FindingKind}
use Rattle.mvt_view.specs.declared.kinds.FindingKind.TheVariants.{ZeroExtent, NoGeometry, UnknownGeometry, FarPoint, LargeId, LargeNumber}

abbrev pub kind_of_note : Note → NoteKind
kind_of_note notes.NoLayers = NoLayers
kind_of_note (notes.Foreign layer version) = Foreign
kind_of_note (notes.NoFeatures layer) = NoFeatures
kind_of_note (notes.RepeatedId layer feature earlier) = RepeatedId
kind_of_note (notes.FlatRing layer feature ring) = FlatRing
kind_of_note (notes.ClosedTwice layer feature ring) = ClosedTwice

abbrev pub note_number : NoteKind → ℕ
note_number NoLayers = 1
note_number Foreign = 2
note_number NoFeatures = 3
note_number RepeatedId = 4
note_number FlatRing = 5
note_number ClosedTwice = 6

unfoldable pub note_sentence : NoteKind → List ℕ
note_sentence NoLayers = codes "The tile has no layer."
note_sentence Foreign = codes "A layer of another version than 2, which is carried as its bytes."
note_sentence NoFeatures = codes "A layer has no feature."
note_sentence RepeatedId = codes "A feature has the id of an earlier one of its layer."
note_sentence FlatRing = codes "A ring's area is 0."
note_sentence ClosedTwice = codes "A ring's last point equals its first, though ClosePath closes it."

abbrev pub kind_of_finding : Finding → FindingKind
kind_of_finding (findings.ZeroExtent layer) = ZeroExtent
kind_of_finding (findings.NoGeometry layer feature) = NoGeometry
kind_of_finding (findings.UnknownGeometry layer feature) = UnknownGeometry
kind_of_finding (findings.FarPoint layer feature x y) = FarPoint
kind_of_finding (findings.LargeId layer feature) = LargeId
kind_of_finding (findings.LargeNumber layer feature attribute) = LargeNumber

abbrev pub finding_number : FindingKind → ℕ
finding_number ZeroExtent = 1
finding_number NoGeometry = 2
finding_number UnknownGeometry = 3
finding_number FarPoint = 4
finding_number LargeId = 5
finding_number LargeNumber = 6

-- when it is told, and what happens in which viewer
unfoldable pub finding_sentence : FindingKind → List ℕ
finding_sentence ZeroExtent = codes
    "A layer's extent is 0. Mapbox GL and QGIS draw no line and no polygon of the layer, QGIS no point either."
finding_sentence NoGeometry = codes "A feature of unknown type has no integers. A line layer of Mapbox GL ends the whole viewer."
finding_sentence UnknownGeometry = codes
    "A feature of unknown type has integers. Mapbox GL drops the whole tile, or draws the integers of a point as a circle; QGIS draws nothing."
finding_sentence FarPoint = codes "The first position of the feature that leaves 16 bits (-32768 to 32767) in 8192ths of the extent, rounded to the nearest, halves away from 0; none in a layer whose extent is 0. Mapbox GL leaves the position out, so a line or a polygon has another shape; if a point is left out, a line layer ends the whole viewer."
finding_sentence LargeId = codes "An id is beyond 2^53 - 1. The feature is drawn, but JavaScript can't tell the id from its neighbours."
finding_sentence LargeNumber = codes
    "An int, a uint or a sint is beyond 2^53 - 1 to either side. The feature is drawn, but JavaScript can't tell the number from its neighbours."
