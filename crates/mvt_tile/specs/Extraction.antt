-- The layers of a tile that are named, and the first name that none has.
use Rattle.std.specs.Prelude.{◌≡◌, ℕ, ◌<◌, ◌≤◌, Bool, false, not, List, length, filter, bytes_eq, Option, Some, None}
use Rattle.std.specs.List.{list_any, position_from}
use Rattle.mvt_message.specs.declared.item.Item.{Item}
use Rattle.mvt_message.specs.declared.item.Item.TheVariants.{Layer, Foreign}
use Rattle.mvt_tile_value.specs.declared.tile.Tile.{Tile}
use Rattle.mvt_tile_value.specs.CanonicalTiles.{canonical}
use Rattle.mvt_tile.specs.declared.extract_error.ExtractError.{ExtractError}
use Rattle.mvt_tile.specs.declared.extract_error.ExtractError.TheVariants.{Memory, MissingLayer}
use Rattle.mvt_tile.specs.declared.extracting.NamedLayers.{NamedLayers}
use Rattle.mvt_tile.specs.declared.extracting.NamedLayers.TheVariants.{Bytes, Missing, TooLarge}

-- a layer of version 2 of this name
abbrev pub is_named : List ℕ → Item → Bool
is_named name (Layer layer) = bytes_eq name layer.name
is_named name (Foreign version bytes) = false

-- a layer of version 2 whose name is among the names
abbrev pub is_among : List (List ℕ) → Item → Bool
is_among names item = list_any (λ name. is_named name item) names

-- these layers, in the order of the tile
abbrev pub pick : Tile → List (List ℕ) → Tile
pick tile names = record { items = filter (is_among names) tile.items }

-- the position of the first name that no layer of version 2 has
abbrev pub first_missing : Tile → List (List ℕ) → Option ℕ
first_missing tile names = position_from (λ name. not (list_any (is_named name) tile.items)) 0 names

-- want of memory only where each name is there
abbrev pub ReportsMissing : ExtractError → Option ℕ → Type 0
ReportsMissing Memory missing = missing ≡ None
ReportsMissing (MissingLayer index) missing = missing ≡ Some index

-- the canonical bytes of the layers of these names; or the first name that no layer has; or that the bytes are too many
abbrev pub AreExtracted : ℕ → Tile → List (List ℕ) → NamedLayers → Type 0
AreExtracted limit tile names (Bytes made) =
    (first_missing tile names ≡ None) × (made.items ≡ canonical (pick tile names)) × (length (canonical (pick tile names)) ≤ limit)
AreExtracted limit tile names (Missing index) = first_missing tile names ≡ Some index
AreExtracted limit tile names TooLarge = (first_missing tile names ≡ None) × (limit < length (canonical (pick tile names)))
