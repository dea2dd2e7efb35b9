-- The devices over memory: what each of their calls answers, and their state after it.
use Rattle.std.specs.Prelude.{ℕ, ◌-◌, ◌&&◌, ◌||◌, min, max, nat_lt, nat_le, Bool, true, false, List, ◌++◌, length, take, drop, Some, Result, Ok, Err, if◌then◌else◌}
use Rattle.std.specs.declared.io.ErrorKind.{ErrorKind}
use Rattle.std.specs.declared.io.ErrorKind.TheVariants.{Other, WriteZero}
use Rattle.mvt_io.specs.Counts.{counted}
use Rattle.mvt_io.specs.States.{Faults, Inflow, Outflow, after_reading, failed, passed}

-- a source: the bytes that it has left, the most that it gives in a read, the number of the first
-- read that fails
pub record SourceState : Type 0 where
  pub left : List ℕ
  pub step : ℕ
  pub fails_from : ℕ
  pub calls : ℕ
  pub empty : ℕ
  pub given : ℕ
  pub asked : ℕ
  pub faults : Faults

-- what is known of it as of any reader
abbrev pub inflow_of : SourceState → Inflow
inflow_of s = record { left = Some s.left; reads = s.calls; empty = s.empty; given = s.given; asked = s.asked; faults = s.faults }

-- reads are numbered from 0
abbrev pub read_fails : SourceState → Bool
read_fails s = nat_le s.fails_from s.calls

-- how many bytes a read into so much room gives
abbrev pub can_give : SourceState → ℕ → ℕ
can_give s room = min s.step (min room (length s.left))

-- what a read gives: an error where it fails, else how many bytes
abbrev pub read_answer : SourceState → ℕ → Result ℕ ErrorKind
read_answer s room = if read_fails s then Err Other else Ok (can_give s room)

-- the source after a read with so much room
abbrev pub after_read : SourceState → ℕ → SourceState
after_read s room = if read_fails s
    then record s {
      calls = counted s.calls;
      given = 0;
      asked = max s.asked room;
      faults = failed Other s.faults;
    }
    else record s {
      left = drop (can_give s room) s.left;
      calls = counted s.calls;
      empty = after_reading (Ok (can_give s room)) s.empty;
      given = can_give s room;
      asked = max s.asked room;
      faults = passed s.faults;
    }

-- a sink: the bytes that it took, the most that it takes in all and in a write, the number of the
-- first write that fails
pub record SinkState : Type 0 where
  pub taken : List ℕ
  pub room : ℕ
  pub step : ℕ
  pub fails_from : ℕ
  pub flush_fails : Bool
  pub calls : ℕ
  pub flushes : ℕ
  pub flushed : Bool
  pub faults : Faults

-- what is known of it as of any writer
abbrev pub outflow_of : SinkState → Outflow
outflow_of s = record { taken = Some s.taken; writes = s.calls; flushes = s.flushes; flushed = s.flushed; faults = s.faults }

-- writes are numbered from 0, and a nonempty one fails once the room is used up
abbrev pub refuses : SinkState → List ℕ → Bool
refuses s piece = nat_le s.fails_from s.calls || (nat_le s.room (length s.taken) && nat_lt 0 (length piece))

-- how many bytes of the piece a write takes
abbrev pub accepted : SinkState → List ℕ → ℕ
accepted s piece = min s.step (min (length piece) (s.room - length s.taken))

-- a write takes nothing of a nonempty piece
abbrev pub stalls : SinkState → List ℕ → Bool
stalls s piece = nat_lt 0 (length piece) && nat_le (accepted s piece) 0

-- what a write gives: an error where it is refused, else how many bytes were taken
abbrev pub write_answer : SinkState → List ℕ → Result ℕ ErrorKind
write_answer s piece = if refuses s piece then Err Other else Ok (accepted s piece)

-- the sink after a write of a piece
abbrev pub after_write : SinkState → List ℕ → SinkState
after_write s piece = if refuses s piece
    then record s { calls = counted s.calls; flushed = false; faults = failed Other s.faults }
    else record s {
      taken = s.taken ++ take (accepted s piece) piece;
      calls = counted s.calls;
      flushed = false;
      faults = if stalls s piece then failed WriteZero s.faults else passed s.faults;
    }

-- what a flush gives
abbrev pub flush_answer : SinkState → Result (Unit {0}) ErrorKind
flush_answer s = if s.flush_fails then Err Other else Ok tt

-- the sink after a flush
abbrev pub after_flush : SinkState → SinkState
after_flush s = if s.flush_fails
    then record s { flushes = counted s.flushes; flushed = false; faults = failed Other s.faults }
    else record s { flushes = counted s.flushes; flushed = true; faults = passed s.faults }
