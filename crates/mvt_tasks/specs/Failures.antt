-- Why a run ends before its output is complete: its status, its line and its cause.
use Rattle.std.specs.Prelude.{◌≡◌, ℕ, List, ◌++◌, codes}
use Rattle.std.specs.declared.io.ErrorKind.{ErrorKind}
use Rattle.mvt_io.specs.States.{FailedLast, Faults, NoneFailed}
use Rattle.mvt_io.specs.declared.read_error.ReadError.{ReadError}
use Rattle.mvt_io.specs.declared.read_error.ReadError.TheVariants as reading
use Rattle.mvt_tile.specs.declared.fault.DecodeError.{DecodeError}
use Rattle.mvt_tile.specs.declared.fault.DecodeError.TheVariants as decoding
use Rattle.mvt_view.specs.FaultLines.{fault_line}
use Rattle.mvt_tasks.specs.declared.failure.Failure.{Failure}
use Rattle.mvt_tasks.specs.declared.failure.Failure.TheVariants.{Read, Write, Memory}

abbrev pub status_of : Failure → ℕ
status_of Read = 3
status_of Write = 3
status_of Memory = 4

abbrev pub line_of : Failure → List ℕ
line_of Read = codes "mvt: read failed\n"
line_of Write = codes "mvt: write failed\n"
line_of Memory = codes "mvt: out of memory\n"

-- a reader that could not be read whole
abbrev pub failure_of : ReadError → Failure
failure_of (reading.Read kind) = Read
failure_of reading.Memory = Memory

-- one call of a reader or a writer failed, and it was the last
abbrev pub EndsFailed : Faults → Faults → Type 0
EndsFailed old new = (kind : ErrorKind) × FailedLast old new kind

-- the reader where no reply could be made: a read failed, and was the last; or memory was wanting, and none failed
abbrev pub FailsReading : Faults → Faults → Failure → Type 0
FailsReading old new Read = EndsFailed old new
FailsReading old new Write = ⊥
FailsReading old new Memory = NoneFailed old new

-- the output where not all could be put out: a call failed, and was the last; or memory was wanting, and none failed
abbrev pub FailsWriting : Faults → Faults → Failure → Type 0
FailsWriting old new Read = ⊥
FailsWriting old new Write = EndsFailed old new
FailsWriting old new Memory = NoneFailed old new

-- the line, with its line feed, of a tile that is refused
abbrev pub IsRefusal : DecodeError → List ℕ → Type 0
IsRefusal decoding.Memory line = ⊥
IsRefusal (decoding.Fault fault) line = line ≡ fault_line fault ++ codes "\n"
IsRefusal (decoding.Read kind) line = ⊥

-- why the line can't be told
abbrev pub refusal_failure : DecodeError → Failure
refusal_failure decoding.Memory = Memory
refusal_failure (decoding.Fault fault) = Memory
refusal_failure (decoding.Read kind) = Read
