-- What a reader gave, piece by piece.
use Rattle.std.specs.Prelude.{ℕ, ◌≤◌, List, ◌++◌, length, Option, ⊤}
use Rattle.std.specs.Io.KnownBytes.{Consumes}
use Rattle.mvt_message.specs.declared.item.Item.{Item}
use Rattle.mvt_tile.specs.declared.fault.Fault.{Fault as AFault}
use Rattle.mvt_tile.specs.declared.fault.DecodeError.{DecodeError}
use Rattle.mvt_tile.specs.declared.fault.DecodeError.TheVariants.{Memory, Fault, Read}
use Rattle.mvt_tile.specs.Streams.{IsCalm, IsLive, ReportsEarly}
use Rattle.mvt_tile.specs.TileRules.{fault_within}
use Rattle.mvt_tile.specs.Visiting.{payloads_in}

-- so many reads gave bytes whose items were taken, and of which these are left after the last whole field
pub record HasFed (limit : ℕ) (HasTaken : List (List ℕ) → List Item → Type 0) (offset : ℕ) (raw : List ℕ) (before now : Option (List ℕ))
    (reads : ℕ) : Type 0 where
  pub items : List Item
  pub few : length items ≤ offset
  pub given : List ℕ
  pub has : HasTaken (payloads_in given) items
  pub consumed : Consumes before now given
  pub live : IsLive limit offset items raw given
  pub turns : reads ≤ length given

-- a fault that stays; the other errors say nothing
abbrev pub ReportsFed : DecodeError → Option AFault → Type 0
ReportsFed Memory fault = ⊤
ReportsFed (Fault f) fault = ReportsEarly (Fault f) fault
ReportsFed (Read kind) fault = ⊤

-- the call ended with an error, in the last piece that was read, of so many bytes
pub record HasStopped (limit piece : ℕ) (before now : Option (List ℕ)) (error : DecodeError) : Type 0 where
  pub front : List ℕ
  pub back : List ℕ
  pub consumed : Consumes before now (front ++ back)
  pub few : length back ≤ piece
  pub small : piece ≤ 65536
  pub calm : IsCalm (fault_within limit front)
  pub reported : ReportsFed error (fault_within limit (front ++ back))
