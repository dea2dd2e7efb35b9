-- What reading a tile from a reader answers.
use Rattle.std.specs.Prelude.{◌≡◌, ℕ, ◌+◌, ◌-◌, List, ◌++◌, length, take, Option, Some, None, Result, Ok, Err, ⊤}
use Rattle.std.specs.declared.io.ErrorKind.{ErrorKind}
use Rattle.mvt_io.specs.States.{EndedBy, Inflow}
use Rattle.mvt_io.specs.Transfers.{Reads}
use Rattle.mvt_tile.specs.declared.fault.Fault.{Fault as AFault}
use Rattle.mvt_tile.specs.declared.fault.DecodeError.{DecodeError}
use Rattle.mvt_tile.specs.declared.fault.DecodeError.TheVariants.{Memory, Fault, Read}
use Rattle.mvt_tile_value.specs.declared.tile.Tile.{Tile}
use Rattle.mvt_tile.specs.Streams.{IsCalm}
use Rattle.mvt_tile.specs.TileRules.{fault_within}

-- the fault that an error tells
abbrev pub fault_of : DecodeError → Option AFault
fault_of Memory = None
fault_of (Fault f) = Some f
fault_of (Read kind) = None

-- the kind of the read that failed, where one did
abbrev pub kind_reported : DecodeError → Option ErrorKind
kind_reported Memory = None
kind_reported (Fault f) = None
kind_reported (Read kind) = Some kind

abbrev pub kind_of : {A : Type 0} → Result A DecodeError → Option ErrorKind
kind_of (Ok x) = None
kind_of (Err error) = kind_reported error

-- the bytes taken from a reader, without the last so many, have no fault but that of a field that isn't finished
abbrev pub StopsEarly : ℕ → ℕ → Option (List ℕ) → Option (List ℕ) → Type 0
StopsEarly limit piece None after = ⊤
StopsEarly limit piece (Some input) None = ⊥
StopsEarly limit piece (Some input) (Some left) =
    (taken : List ℕ) × (input ≡ taken ++ left) × IsCalm (fault_within limit (take (length taken - piece) taken))

-- how a tile is read: no further after a fault; in so many reads, each of which gives some bytes but the last; and where one
-- fails it is the last, with the kind that is told
pub record ReadsTile (limit : ℕ) (old new : Inflow) (kind : Option ErrorKind) : Type 0 where
  pub early : StopsEarly limit 65536 old.left new.left
  pub stops : StopsEarly limit new.given old.left new.left
  pub reads : Reads (limit + 2) old new
  pub faults : EndedBy kind old.faults new.faults

-- the tile was read, or no fault was told of it: want of memory, or a read that failed
abbrev pub ReadsBack : Result Tile DecodeError → Tile → Type 0
ReadsBack (Ok read) tile = read ≡ tile
ReadsBack (Err Memory) tile = ⊤
ReadsBack (Err (Fault f)) tile = ⊥
ReadsBack (Err (Read kind)) tile = ⊤
