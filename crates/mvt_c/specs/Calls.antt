-- What the calls answer.
use Rattle.std.specs.Prelude.{◌≡◌, ℕ, ◌<◌, List, length, Option, None, Some, Result, Ok, Err, ⊤}
use Rattle.mvt_base.specs.declared.TheConstants.{LIMIT}
use Rattle.mvt_tile.specs.declared.fault.DecodeError.{DecodeError}
use Rattle.mvt_tile.specs.declared.fault.DecodeError.TheVariants as decoding
use Rattle.mvt_mend.specs.declared.tile.MendError.{MendError}
use Rattle.mvt_mend.specs.declared.tile.MendError.TheVariants as mending
use Rattle.mvt_tile.specs.declared.fault.Fault.{Fault as TileFault}
use Rattle.mvt_tile_value.specs.declared.tile.Tile.{Tile}
use Rattle.mvt_tile_value.specs.CanonicalTiles.{canonical}
use Rattle.mvt_tile.specs.Extraction.{pick, first_missing}
use Rattle.mvt_tile.specs.NamedLayer.{first_in, named_fault}
use Rattle.mvt_tile.specs.TileRules.{fault_within}
use Rattle.mvt_tile_value.specs.Tiles.{IsTile}
use Rattle.serde_json.specs.Written.{compact_text}
use Rattle.mvt_view.specs.JsonForms.{json}
use Rattle.mvt_c.specs.declared.fault.Fault.{Fault}
use Rattle.mvt_c.specs.declared.refusal.Refusal.{Refusal}
use Rattle.mvt_c.specs.declared.refusal.Refusal.TheVariants.{Refused, Memory, TooLarge, NoLayer, BadName}
use Rattle.mvt_c.specs.Faults.{IsFault}
use Rattle.mvt_rows.specs.Reading.{IsTooLarge}

-- the statuses of mvt.h
abbrev pub status_of_refusal : Refusal → ℕ
status_of_refusal (Refused fault) = 1
status_of_refusal Memory = 2
status_of_refusal TooLarge = 3
status_of_refusal (NoLayer index) = 4
status_of_refusal BadName = 5

-- 0 for an answer
abbrev pub status_of : {A : Type 0} → Result A Refusal → ℕ
status_of (Ok made) = 0
status_of (Err refusal) = status_of_refusal refusal

-- a tile that is refused has its fault told; else what C has stays as it was
abbrev pub ReportsFault : Refusal → Fault → Fault → Type 0
ReportsFault (Refused fault) old new = IsFault fault new
ReportsFault Memory old new = new ≡ old
ReportsFault TooLarge old new = new ≡ old
ReportsFault (NoLayer index) old new = new ≡ old
ReportsFault BadName old new = new ≡ old

-- a call without a reader never tells a failed read
abbrev pub of_decode : DecodeError → Refusal
of_decode decoding.Memory = Memory
of_decode (decoding.Fault fault) = Refused fault
of_decode (decoding.Read kind) = Memory

-- why a tile isn't mended is no matter of the status
abbrev pub of_mend : MendError → Refusal
of_mend mending.Memory = Memory
of_mend (mending.Refused fault cause) = Refused fault

-- the status of a decoder: 0, or that of the error that it keeps
abbrev pub status_of_failure : Option DecodeError → ℕ
status_of_failure None = 0
status_of_failure (Some error) = status_of_refusal (of_decode error)

-- the bytes are a tile
abbrev pub IsAccepted : List ℕ → Type 0
IsAccepted input = (tile : Tile) × IsTile LIMIT input tile

-- a fault that there is, as C sees it
abbrev pub IsReportedOf : Option TileFault → Fault → Type 0
IsReportedOf found reported = (fault : TileFault) × (found ≡ Some fault) × IsFault fault reported

-- the first broken rule of the bytes
abbrev pub IsReported : List ℕ → Fault → Type 0
IsReported input reported = IsReportedOf (fault_within LIMIT input) reported

-- why nothing is made of the bytes
abbrev pub RefusedAs : List ℕ → Refusal → Type 0
RefusedAs input (Refused fault) = fault_within LIMIT input ≡ Some fault
RefusedAs input Memory = ⊤
RefusedAs input TooLarge = IsTooLarge input
RefusedAs input (NoLayer index) = ⊥
RefusedAs input BadName = ⊥

-- the bytes are this tile, and each name is that of a layer of version 2
abbrev pub IsTileWith : List ℕ → Tile → List (List ℕ) → Type 0
IsTileWith input tile names = IsTile LIMIT input tile × (first_missing tile names ≡ None)

-- the bytes are a tile with a layer of each name, and these are the canonical bytes of those layers
abbrev pub IsExtracted : List ℕ → List (List ℕ) → List ℕ → Type 0
IsExtracted input names made = (tile : Tile) × IsTileWith input tile names × (made ≡ canonical (pick tile names))

-- the bytes are a tile with a layer of each name, and the canonical bytes of those layers are more than the limit
abbrev pub IsTooLargeOf : List ℕ → List (List ℕ) → Type 0
IsTooLargeOf input names = (tile : Tile) × IsTileWith input tile names × (LIMIT < length (canonical (pick tile names)))

-- the bytes are a tile, and the first name that no layer of version 2 has is the one of this index
abbrev pub LacksName : List ℕ → List (List ℕ) → ℕ → Type 0
LacksName input names n = (tile : Tile) × IsTile LIMIT input tile × (first_missing tile names ≡ Some n)

-- no layer of version 2 among the fields of the bytes has the name
abbrev pub LacksLayerOf : List ℕ → List ℕ → Type 0
LacksLayerOf name input = (named_fault LIMIT name input ≡ None) × (first_in name input ≡ None)

-- why no layers are extracted from the bytes
abbrev pub NotExtracted : List ℕ → List (List ℕ) → Refusal → Type 0
NotExtracted input names (Refused fault) = fault_within LIMIT input ≡ Some fault
NotExtracted input names Memory = ⊤
NotExtracted input names TooLarge = IsTooLargeOf input names
NotExtracted input names (NoLayer index) = LacksName input names index
NotExtracted input names BadName = ⊥

-- why no layer of this name is read from the bytes
abbrev pub NotReadOf : List ℕ → List ℕ → Refusal → Type 0
NotReadOf name input (Refused fault) = named_fault LIMIT name input ≡ Some fault
NotReadOf name input Memory = ⊤
NotReadOf name input TooLarge = ⊥
NotReadOf name input (NoLayer index) = LacksLayerOf name input
NotReadOf name input BadName = ⊥

-- the bytes are a tile, and this is a text of it
abbrev pub IsTextOf : (Tile → List ℕ) → List ℕ → List ℕ → Type 0
IsTextOf text_of input made = (tile : Tile) × IsTile LIMIT input tile × (made ≡ text_of tile)

-- the JSON, as one line
abbrev pub json_line : Tile → List ℕ
json_line tile = compact_text (json tile)

-- why no text is made of the bytes
abbrev pub NotShown : List ℕ → Refusal → Type 0
NotShown input (Refused fault) = fault_within LIMIT input ≡ Some fault
NotShown input Memory = ⊤
NotShown input TooLarge = ⊥
NotShown input (NoLayer index) = ⊥
NotShown input BadName = ⊥
