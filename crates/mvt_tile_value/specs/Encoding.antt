-- What is made of a tile, and of items one after the other, where it is within the limit.
use Rattle.std.specs.Prelude.{◌≡◌, ℕ, ◌<◌, ◌≤◌, List, length, map, Option, MatchOption, Vec}
use Rattle.std.specs.Global.{Global}
use Rattle.mvt_wire.specs.Spelling.{spelled}
use Rattle.mvt_message.specs.declared.item.Item.{Item}
use Rattle.mvt_tile_value.specs.declared.tile.Tile.{Tile}
use Rattle.mvt_tile_value.specs.CanonicalTiles.{canonical, item_field}

-- these bytes; none where they are more than the limit
abbrev pub IsWithin : ℕ → List ℕ → Option (Vec ℕ Global) → Type 0
IsWithin limit bytes made = MatchOption made (limit < length bytes) (λ kept. (kept.items ≡ bytes) × (length bytes ≤ limit))

-- the canonical bytes of items
abbrev pub AreEncoded : ℕ → List Item → Option (Vec ℕ Global) → Type 0
AreEncoded limit items made = IsWithin limit (spelled (map item_field items)) made

-- the canonical bytes of a tile
abbrev pub IsEncoded : ℕ → Tile → Option (Vec ℕ Global) → Type 0
IsEncoded limit tile made = IsWithin limit (canonical tile) made
