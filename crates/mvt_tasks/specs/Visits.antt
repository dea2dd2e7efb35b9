-- The files that a folder was asked for, and how many are open.
use Rattle.std.specs.Prelude.{◌≡◌, ◌≢◌, ℕ, ◌+◌, ◌-◌, ◌≤◌, max, List, [], ◌∷◌, ◌++◌, Bool, true, false, Option, Some, None, ⊤}
use Rattle.std.specs.declared.io.ErrorKind.{ErrorKind}
use Rattle.std.specs.declared.io.ErrorKind.TheVariants.{OutOfMemory}
use Rattle.mvt_io.specs.Counts.{counted}
use Rattle.mvt_tasks.specs.declared.folder.OpenFiles.{OpenFiles}
use Rattle.mvt_tasks.specs.declared.folder.Visit.{Visit}

abbrev pub visit : List ℕ → Bool → Visit
visit name is_read = record { name = name; is_read = is_read }

-- known visits grow by some more; they may also be lost
abbrev pub AddsAll : Option (List Visit) → Option (List Visit) → List Visit → Type 0
AddsAll old None more = ⊤
AddsAll None (Some new) more = ⊥
AddsAll (Some old) (Some new) more = new ≡ old ++ more

abbrev pub Adds : Option (List Visit) → Option (List Visit) → Visit → Type 0
Adds old new one = AddsAll old new (one ∷ [])

-- after a file that couldn't be opened: it was visited, unless memory was wanting
abbrev pub IsUnopened : ErrorKind → List ℕ → Option (List Visit) → Option (List Visit) → Type 0
IsUnopened kind name old new = (kind ≡ OutOfMemory → new ≡ old) × (kind ≢ OutOfMemory → Adds old new (visit name false))

-- at most one visit more, to the first of these files
abbrev pub IsNext : List (List ℕ) → List Visit → Type 0
IsNext names [] = ⊤
IsNext [] (v ∷ vs) = ⊥
IsNext (name ∷ names) (v ∷ []) = v.name ≡ name
IsNext (name ∷ names) (v ∷ w ∷ vs) = ⊥

-- at most one visit more, to the file of this name, all of whose bytes were read
abbrev pub IsReadAtMost : List ℕ → List Visit → Type 0
IsReadAtMost name [] = ⊤
IsReadAtMost name (v ∷ []) = v ≡ visit name true
IsReadAtMost name (v ∷ w ∷ vs) = ⊥

-- one file more is open, or one less
abbrev pub one_more : OpenFiles → OpenFiles
one_more files = record { now = counted files.now; most = max files.most (counted files.now) }

abbrev pub one_less : OpenFiles → OpenFiles
one_less files = record { now = files.now - 1; most = files.most }

-- no more files are open than before, and never was more than one more
abbrev pub OneAtATime : OpenFiles → OpenFiles → Type 0
OneAtATime old new = (new.now ≤ old.now) × (new.most ≤ max old.most (old.now + 1))
