-- A stream that comes in pieces.
use Rattle.std.specs.Prelude.{◌≡◌, ℕ, ◌≤◌, true, false, List, length, Option, Some, None, Result, Ok, Err, ⊤}
use Rattle.mvt_wire.specs.Split.{split}
use Rattle.mvt_message.specs.declared.item.Item.{Item}
use Rattle.mvt_tile.specs.declared.fault.Fault.{Fault as AFault}
use Rattle.mvt_tile.specs.declared.fault.DecodeError.{DecodeError}
use Rattle.mvt_tile.specs.declared.fault.DecodeError.TheVariants.{Memory, Fault, Read}
use Rattle.mvt_tile.specs.Faults.{is_open}
use Rattle.mvt_tile.specs.TileRules.{fault_within}
use Rattle.mvt_tile_value.specs.Tiles.{AreItems}

-- no fault, or that of a field that isn't finished
abbrev pub IsCalm : Option AFault → Type 0
IsCalm o = (f : AFault) → o ≡ Some f → is_open f ≡ true

-- a decoder that hasn't failed: the bytes are the rest of the stream, the items are its whole fields
pub record IsLive (limit offset : ℕ) (items : List Item) (raw stream : List ℕ) : Type 0 where
  pub small : length stream ≤ limit
  pub rest : (split stream).rest ≡ raw
  pub place : (split stream).rest_at ≡ offset
  pub items_are : AreItems (split stream).fields items
  pub calm : IsCalm (fault_within limit stream)

-- an error that no byte after the stream can change; want of memory says nothing of the stream
abbrev pub ReportsEarly : DecodeError → Option AFault → Type 0
ReportsEarly Memory fault = ⊤
ReportsEarly (Fault f) fault = (fault ≡ Some f) × (is_open f ≡ false)
ReportsEarly (Read kind) fault = ⊥

-- an error at the end of the stream
abbrev pub ReportsAtEnd : DecodeError → Option AFault → Type 0
ReportsAtEnd Memory fault = ⊤
ReportsAtEnd (Fault f) fault = fault ≡ Some f
ReportsAtEnd (Read kind) fault = ⊥

-- a call answers the error that the decoder keeps, or Ok where there is none
abbrev pub Answers : Option DecodeError → Result (Unit {0}) DecodeError → Type 0
Answers None result = result ≡ Ok tt
Answers (Some error) result = result ≡ Err error
