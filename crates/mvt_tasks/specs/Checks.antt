-- What is said of files that are checked, explained or linted, one after another.
use Rattle.std.specs.Prelude.{◌≡◌, ℕ, ◌⊎◌, ◌≤◌, ◌==◌, List, [], ◌∷◌, ◌++◌, length, map, nat_lt, count_by, Bool, true, false, Option, Some, None, is_some, IfSome, codes, if◌then◌else◌, ⊤}
use Rattle.std.specs.Fmt.{decimal}
use Rattle.std.specs.List.{flat_map, list_any}
use Rattle.std.specs.Io.KnownBytes.{Appends}
use Rattle.mvt_base.specs.Related.{AreRelated}
use Rattle.mvt_io.specs.Counts.{counted, last_count}
use Rattle.mvt_io.specs.States.{AllPassed, NoneFailed, Outflow}
use Rattle.mvt_io.specs.Transfers.{TakesPrefix}
use Rattle.mvt_tasks.specs.declared.failure.Failure.{Failure}
use Rattle.mvt_tasks.specs.declared.failure.Failure.TheVariants.{Read, Write, Memory}
use Rattle.mvt_tasks.specs.declared.folder.Visit.{Visit}
use Rattle.mvt_tasks.specs.declared.reply.Reply.{Reply}
use Rattle.mvt_tasks.specs.declared.tally.Tally.{Tally}
use Rattle.mvt_tasks.specs.declared.tally.Verdict.{Verdict}
use Rattle.mvt_tasks.specs.declared.tally.Verdict.TheVariants.{Accepted, Found, Refused, Unread}
use Rattle.mvt_tasks.specs.declared.task.Task.{Task}
use Rattle.mvt_tasks.specs.declared.task.Task.TheVariants.{Check, Explain, Lint}
use Rattle.mvt_tasks.specs.Failures.{line_of, status_of, FailsWriting}
use Rattle.mvt_tasks.specs.Output.{IsReply}
use Rattle.mvt_tasks.specs.Visits.{visit, Adds, AddsAll, IsNext}

-- a file, and what is answered for its bytes; no answer where they couldn't be read
pub record Checked : Type 0 where
  pub name : List ℕ
  pub reply : Option Reply

-- what is asked of files: to check them, to explain them, or to lint them
abbrev pub task_of_files : Task → Task
task_of_files Explain = Explain
task_of_files Lint = Lint
task_of_files task = Check

-- what is answered for the bytes of a file
abbrev pub SaysOf : ℕ → Task → List ℕ → Reply → Type 0
SaysOf limit task input reply = IsReply limit (task_of_files task) input reply

-- the reply is that for what the file holds
abbrev pub IsFileReply : (List ℕ → Reply → Type 0) → Option (List ℕ) → Option Reply → Type 0
IsFileReply Says held None = ⊤
IsFileReply Says held (Some reply) = IfSome held (λ input. Says input reply)

-- each name's file, in order, with its reply
abbrev pub AreChecked : (List ℕ → Reply → Type 0) → (List ℕ → Option (List ℕ)) → List (List ℕ) → List Checked → Type 0
AreChecked Says holds names files =
    AreRelated (λ name (file : Checked). (file.name ≡ name) × IsFileReply Says (holds name) file.reply) names files

-- a file without a reply is one that couldn't be read
abbrev pub visit_of : List ℕ → Option Reply → Visit
visit_of name reply = visit name (is_some reply)

-- a text with a mark before each of its lines; it begins with a line, or in the midst of one
abbrev pub marked : List ℕ → Bool → List ℕ → List ℕ
marked mark is_start [] = []
marked mark is_start (b ∷ bs) = (if is_start then mark else []) ++ (b ∷ marked mark (b == 10) bs)

abbrev pub marked_text : List ℕ → Option (List ℕ) → List ℕ
marked_text name None = []
marked_text name (Some text) = marked (name ++ codes ": ") true text

abbrev pub text_of : Option Reply → Option (List ℕ)
text_of None = None
text_of (Some reply) = reply.output

abbrev pub line_printed : Option Reply → Option (List ℕ)
line_printed None = Some (codes "read failed\n")
line_printed (Some reply) = reply.error_line

-- what goes to the output, and what goes to the error stream, each line after the file's name
unfoldable pub written_of : Checked → List ℕ
written_of file = marked_text file.name (text_of file.reply)

unfoldable pub printed_of : Checked → List ℕ
printed_of file = marked_text file.name (line_printed file.reply)

abbrev pub verdict_printed : Option (List ℕ) → Bool → Verdict
verdict_printed None false = Accepted
verdict_printed None true = Found
verdict_printed (Some line) has_findings = Refused

-- a tile for which a line is told is refused; another one is accepted, with findings or without
abbrev pub verdict_of : Option Reply → Verdict
verdict_of None = Unread
verdict_of (Some reply) = verdict_printed reply.error_line reply.has_findings

abbrev pub is_accepted : Verdict → Bool
is_accepted Accepted = true
is_accepted Found = true
is_accepted Refused = false
is_accepted Unread = false

abbrev pub is_refused : Verdict → Bool
is_refused Accepted = false
is_refused Found = false
is_refused Refused = true
is_refused Unread = false

abbrev pub is_unread : Verdict → Bool
is_unread Accepted = false
is_unread Found = false
is_unread Refused = false
is_unread Unread = true

abbrev pub is_found : Verdict → Bool
is_found Accepted = false
is_found Found = true
is_found Refused = false
is_found Unread = false

abbrev pub count_of : (Verdict → Bool) → List Checked → ℕ
count_of test files = count_by (λ (file : Checked). test (verdict_of file.reply)) files

abbrev pub tally_of : List Checked → Tally
tally_of files = record {
  accepted = count_of is_accepted files;
  refused = count_of is_refused files;
  unread = count_of is_unread files;
  has_findings = list_any (λ (file : Checked). is_found (verdict_of file.reply)) files;
}

-- 3 where a file was unread, else 1 where a tile was refused, else 5 where one has findings
abbrev pub status_after : Tally → ℕ
status_after tally = if nat_lt 0 tally.unread then 3 else (if nat_lt 0 tally.refused then 1 else (if tally.has_findings then 5 else 0))

-- of more than one file, how many there were of each kind
unfoldable pub summary : ℕ → Tally → List ℕ
summary all tally =
    if nat_lt 1 all
    then codes "mvt: " ++ (decimal all
    ++ (codes " tiles: " ++ (decimal tally.accepted
    ++ (codes " accepted, " ++ (decimal tally.refused
    ++ (codes " refused, " ++ (decimal tally.unread ++ codes " unread\n")))))))
    else []

-- a count of failed calls, and a later one; a count may stand where it stops
abbrev pub IsLater : ℕ → ℕ → Type 0
IsLater old new = (old ≤ new) ⊎ (last_count ≤ new)

-- the error stream grew by a text, unless one of its writes failed
pub record Prints (old new : Outflow) (text : List ℕ) : Type 0 where
  pub counts : IsLater old.faults.count new.faults.count
  pub prints : AllPassed old.faults new.faults → Appends old.taken new.taken text

-- what is known at one moment of a run: the visits of the folder, the output, and the error stream
pub record RunState : Type 0 where
  pub visits : Option (List Visit)
  pub output : Outflow
  pub errors : Outflow

abbrev pub run_state : Option (List Visit) → Outflow → Outflow → RunState
run_state visits output errors = record { visits = visits; output = output; errors = errors }

-- the files of these names were checked, each once and in order, and all was put out that there is to say of them, and on
-- the error stream one line more
pub record ReportsFiles (Says : List ℕ → Reply → Type 0) (holds : List ℕ → Option (List ℕ)) (names : List (List ℕ)) (old new : RunState)
    (line : List ℕ) (tally : Tally) : Type 0 where
  pub files : List Checked
  pub checked : AreChecked Says holds names files
  pub visited : AddsAll old.visits new.visits (map (λ file. visit_of file.name file.reply) files)
  pub written : Appends old.output.taken new.output.taken (flat_map written_of files)
  pub printed : Prints old.errors new.errors (flat_map printed_of files ++ line)
  pub counted : tally ≡ tally_of files

-- the same of one file
pub record ReportsFile (Says : List ℕ → Reply → Type 0) (holds : List ℕ → Option (List ℕ)) (name : List ℕ) (old new : RunState)
    (verdict : Verdict) : Type 0 where
  pub reply : Option Reply
  pub checked : IsFileReply Says (holds name) reply
  pub visited : Adds old.visits new.visits (visit_of name reply)
  pub written : Appends old.output.taken new.output.taken (written_of (record { name = name; reply = reply }))
  pub printed : Prints old.errors new.errors (printed_of (record { name = name; reply = reply }))
  pub judged : verdict ≡ verdict_of reply

-- what was taken of a text when a run was over: a front after a failed write, and all of it where memory was wanting
abbrev pub TakesUntil : Option (List ℕ) → Option (List ℕ) → List ℕ → Failure → Type 0
TakesUntil old new text Read = ⊥
TakesUntil old new text Write = TakesPrefix old new text
TakesUntil old new text Memory = Appends old new text

-- a run that was over early: the files of a front of the names were checked, in order, at most one more was visited, what
-- there is to say of the checked ones was taken, and on the error stream one line more
pub record EndsEarly (Says : List ℕ → Reply → Type 0) (holds : List ℕ → Option (List ℕ)) (names : List (List ℕ)) (old new : RunState)
    (line : List ℕ) (failure : Failure) : Type 0 where
  pub front : List (List ℕ)
  pub rest : List (List ℕ)
  pub files : List Checked
  pub next : List Visit
  pub of_names : names ≡ front ++ rest
  pub checked : AreChecked Says holds front files
  pub is_next : IsNext rest next
  pub visited : AddsAll old.visits new.visits (map (λ file. visit_of file.name file.reply) files ++ next)
  pub taken : TakesUntil old.output.taken new.output.taken (flat_map written_of files) failure
  pub printed : Prints old.errors new.errors (flat_map printed_of files ++ line)

-- the output was flushed where a flush failed, and else not
abbrev pub FlushesAtMost : ℕ → ℕ → Failure → Type 0
FlushesAtMost old new failure = (new ≡ old) ⊎ ((failure ≡ Write) × (new ≡ counted old))

-- all is said of the files of these names, the output was then flushed once, none of its calls failed, and the status tells how
-- the files were judged; or the run was over before, with a front of this on the output, not flushed but by a call that
-- failed, and the last line tells why
abbrev pub TellsFiles : (List ℕ → Reply → Type 0) → (List ℕ → Option (List ℕ)) → List (List ℕ) → RunState → RunState → ℕ → Type 0
TellsFiles Says holds names old new status =
    ((tally : Tally) × ReportsFiles Says holds names old new (summary (length names) tally) tally
    × (new.output.flushes ≡ counted old.output.flushes) × (new.output.flushed ≡ true) × NoneFailed old.output.faults new.output.faults
    × (status ≡ status_after tally))
    ⊎ ((failure : Failure) × FailsWriting old.output.faults new.output.faults failure × (status ≡ status_of failure)
    × EndsEarly Says holds names old new (line_of failure) failure × FlushesAtMost old.output.flushes new.output.flushes failure)

-- the same, where the files are checked
abbrev pub ChecksFiles : ℕ → (List ℕ → Option (List ℕ)) → List (List ℕ) → RunState → RunState → ℕ → Type 0
ChecksFiles limit holds names old new status = TellsFiles (IsReply limit Check) holds names old new status
