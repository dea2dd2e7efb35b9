-- What is known of a reader and of a writer at one moment, and what a call leaves of it.
use Rattle.std.specs.Prelude.{◌≡◌, ℕ, ◌<◌, ◌==◌, ◌&&◌, nat_lt, Bool, true, false, List, length, Option, Some, None, Result, Ok, Err, if◌then◌else◌}
use Rattle.std.specs.declared.io.ErrorKind.{ErrorKind}
use Rattle.std.specs.declared.io.ErrorKind.TheVariants.{WriteZero}
use Rattle.mvt_io.specs.Counts.{counted, last_count}

-- how many calls failed, the kind of the last that did, and whether the last call of all did
pub record Faults : Type 0 where
  pub count : ℕ
  pub last : Option ErrorKind
  pub ended : Bool

-- a reader: the bytes that it will still give, where they are known; how many reads there were, and how many of them gave
-- nothing; how many bytes the last one gave; the most bytes that one asked for; and those that failed
pub record Inflow : Type 0 where
  pub left : Option (List ℕ)
  pub reads : ℕ
  pub empty : ℕ
  pub given : ℕ
  pub asked : ℕ
  pub faults : Faults

-- a writer: the bytes that it took, where they are known; how many writes and how many flushes there were; whether the last
-- call of all was a flush that went well, so that all that it took was flushed; and the calls that failed
pub record Outflow : Type 0 where
  pub taken : Option (List ℕ)
  pub writes : ℕ
  pub flushes : ℕ
  pub flushed : Bool
  pub faults : Faults

-- after a call that went well
abbrev pub passed : Faults → Faults
passed old = record old { ended = false }

-- after a call that failed with this kind
abbrev pub failed : ErrorKind → Faults → Faults
failed kind old = record { count = counted old.count; last = Some kind; ended = true }

-- after a read or a flush
abbrev pub after_call : {A : Type 0} → Result A ErrorKind → Faults → Faults
after_call (Ok x) old = passed old
after_call (Err kind) old = failed kind old

-- how many reads gave nothing, after one more
abbrev pub after_reading : Result ℕ ErrorKind → ℕ → ℕ
after_reading (Ok n) empty = if n == 0 then counted empty else empty
after_reading (Err kind) empty = empty

-- after a write; to take nothing of a nonempty piece is a fault of kind WriteZero
abbrev pub after_writing : Result ℕ ErrorKind → List ℕ → Faults → Faults
after_writing (Ok n) piece old = if (n == 0) && nat_lt 0 (length piece) then failed WriteZero old else passed old
after_writing (Err kind) piece old = failed kind old

-- no more calls failed than before
abbrev pub NoneFailed : Faults → Faults → Type 0
NoneFailed old new = new.count ≡ old.count

-- no call failed: the count of those that did doesn't stand where it stops
abbrev pub AllPassed : Faults → Faults → Type 0
AllPassed old new = (new.count ≡ old.count) × (old.count < last_count)

-- one call failed, of this kind, and it was the last
pub record FailedLast (old new : Faults) (kind : ErrorKind) : Type 0 where
  pub once : new.count ≡ counted old.count
  pub reported : new.last ≡ Some kind
  pub ended : new.ended ≡ true

-- the calls ended with one that failed with this kind; or none failed
abbrev pub EndedBy : Option ErrorKind → Faults → Faults → Type 0
EndedBy None old new = NoneFailed old new
EndedBy (Some kind) old new = FailedLast old new kind
