-- What mending a tile answers.
use Rattle.std.specs.Prelude.{◌≡◌, ℕ, List, Option, Some, IsSome, Vec, ⊤}
use Rattle.std.specs.Global.{Global}
use Rattle.mvt_tile.specs.declared.fault.Fault.{Fault}
use Rattle.mvt_mend.specs.declared.change.Unmended.{Unmended}
use Rattle.mvt_mend.specs.declared.tile.MendError.{MendError}
use Rattle.mvt_mend.specs.declared.tile.MendError.TheVariants.{Memory, Refused}
use Rattle.mvt_tile.specs.TileRules.{fault_within}
use Rattle.mvt_tile_value.specs.declared.tile.Tile.{Tile}
use Rattle.mvt_tile_value.specs.Encoding.{IsEncoded}
use Rattle.mvt_tile_value.specs.Tiles.{IsTile}
use Rattle.mvt_tile_value.specs.ValidTiles.{Valid}

-- mended bytes are a tile, and what is made is its canonical bytes
abbrev pub IsMended : ℕ → List ℕ → Option (Vec ℕ Global) → Type 0
IsMended limit bytes made = (tile : Tile) × IsTile limit bytes tile × Valid tile × IsEncoded limit tile made

-- mended bytes break a rule too; want of memory says nothing of them
abbrev pub StaysRefused : ℕ → List ℕ → MendError → Type 0
StaysRefused limit bytes Memory = ⊤
StaysRefused limit bytes (Refused fault cause) = IsSome (fault_within limit bytes)

-- the fault of the bytes as they stand
abbrev pub TellsFault : MendError → Option Fault → Type 0
TellsFault Memory fault = ⊤
TellsFault (Refused told cause) fault = fault ≡ Some told

-- why they aren't mended
abbrev pub HasCause : MendError → Unmended → Type 0
HasCause Memory cause = ⊤
HasCause (Refused fault told) cause = told ≡ cause
