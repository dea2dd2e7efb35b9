-- What reading a whole reader and writing a whole slice answer.
use Rattle.std.specs.Prelude.{◌≡◌, ℕ, ◌+◌, ◌<◌, ◌≤◌, max, List, length, ◌++◌, take, Option, Some, None, IfSome, Result, Ok, Err, codes}
use Rattle.std.specs.Io.KnownBytes.{Appends, Consumes, IsAtEnd}
use Rattle.std.specs.declared.io.ErrorKind.{ErrorKind}
use Rattle.mvt_io.specs.declared.read_error.ReadError.{ReadError}
use Rattle.mvt_io.specs.declared.read_error.ReadError.TheVariants.{Memory, Read}
use Rattle.mvt_io.specs.States.{EndedBy, Inflow, NoneFailed, Outflow}

-- the kind of the read that failed, where one did
abbrev pub kind_read : {A : Type 0} → Result A ReadError → Option ErrorKind
kind_read (Ok x) = None
kind_read (Err Memory) = None
kind_read (Err (Read kind)) = Some kind

-- how the error is printed
abbrev pub read_error_text : ReadError → List ℕ
read_error_text Memory = codes "out of memory"
read_error_text (Read kind) = codes "read failed"

-- no more than so many bytes were taken from a reader
abbrev pub TakesAtMost : ℕ → Option (List ℕ) → Option (List ℕ) → Type 0
TakesAtMost most old new = (taken : List ℕ) × (length taken ≤ most) × Consumes old new taken

-- a front of the bytes was taken
abbrev pub TakesPrefix : Option (List ℕ) → Option (List ℕ) → List ℕ → Type 0
TakesPrefix old new bytes = (n : ℕ) × (n ≤ length bytes) × Appends old new (take n bytes)

-- each read but the last gave some of the bytes that were taken
abbrev pub EachGives : Inflow → Inflow → Type 0
EachGives old new = (taken : List ℕ) × Consumes old.left new.left taken × (new.reads ≤ old.reads + length taken + 1)

-- so many reads at most, none of which asked for more than 65,536 bytes, and each of which gave some but the last; so one
-- read at most found the end
pub record Reads (most : ℕ) (old new : Inflow) : Type 0 where
  pub count : new.reads ≤ old.reads + most
  pub asked : new.asked ≤ max old.asked 65536
  pub turns : EachGives old new
  pub ends : new.empty ≤ old.empty + 1

-- the next bytes were read, so many at most; where they are fewer, these were all. Each read but the last gave some
pub record ReadFront (most : ℕ) (old new : Inflow) (bytes : List ℕ) : Type 0 where
  pub front : Consumes old.left new.left bytes
  pub known : IfSome old.left (λ left. bytes ≡ take most left)
  pub short : length bytes < most → IsAtEnd new.left
  pub few : length bytes ≤ most
  pub turns : new.reads ≤ old.reads + length bytes + 1

-- the next bytes were read so, and stand behind those that were there
abbrev pub ReadOn : ℕ → Inflow → Inflow → List ℕ → List ℕ → Type 0
ReadOn most old new before all = (given : List ℕ) × (all ≡ before ++ given) × ReadFront most old new given

-- the bytes were taken, in no more writes than there are bytes, and no call failed
pub record Wrote (old new : Outflow) (bytes : List ℕ) : Type 0 where
  pub taken : Appends old.taken new.taken bytes
  pub writes : new.writes ≤ old.writes + length bytes
  pub flushes : new.flushes ≡ old.flushes
  pub faults : NoneFailed old.faults new.faults

-- a front of the bytes was taken, in no more writes than there are bytes, and then a call failed with this kind, if there is one
pub record WroteFront (old new : Outflow) (bytes : List ℕ) (kind : Option ErrorKind) : Type 0 where
  pub taken : TakesPrefix old.taken new.taken bytes
  pub writes : new.writes ≤ old.writes + length bytes
  pub flushes : new.flushes ≡ old.flushes
  pub faults : EndedBy kind old.faults new.faults
