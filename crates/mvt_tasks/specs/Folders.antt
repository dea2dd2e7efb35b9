-- Files in memory, and what was asked of them.
use Rattle.std.specs.Prelude.{ℕ, List, find, bytes_eq, Option, Some, None}
use Rattle.std.specs.Option.{option_map}
use Rattle.std.specs.declared.io.ErrorKind.{ErrorKind}
use Rattle.std.specs.declared.io.ErrorKind.TheVariants.{NotFound, PermissionDenied}
use Rattle.mvt_tasks.specs.declared.folder.OpenFiles.{OpenFiles}
use Rattle.mvt_tasks.specs.declared.folder.Visit.{Visit}
use Rattle.mvt_tasks.specs.declared.memory.MemoryFile.{MemoryFile}

-- a folder's files, the visits to it, and how many of its files are open
pub record FolderState : Type 0 where
  pub files : List MemoryFile
  pub visits : List Visit
  pub open_files : OpenFiles

-- the first file of a name
abbrev pub file_named : List MemoryFile → List ℕ → Option MemoryFile
file_named files name = find (λ (file : MemoryFile). bytes_eq file.name name) files

abbrev pub bytes_of : Option MemoryFile → Option (List ℕ)
bytes_of None = None
bytes_of (Some file) = option_map (λ bytes. bytes.items) file.bytes

-- the first read of the file of a name that fails
abbrev pub fails_in : List MemoryFile → List ℕ → Option ℕ
fails_in files name = option_map (λ (file : MemoryFile). file.fails_from) (file_named files name)

abbrev pub kind_without : {A : Type 0} → Option A → Option ErrorKind
kind_without None = Some PermissionDenied
kind_without (Some bytes) = None

-- why a file can't be opened: there is none, or it has no bytes; nothing where it can be
abbrev pub kind_missing : Option MemoryFile → Option ErrorKind
kind_missing None = Some NotFound
kind_missing (Some file) = kind_without file.bytes

abbrev pub missing_in : List MemoryFile → List ℕ → Option ErrorKind
missing_in files name = kind_missing (file_named files name)

-- what the file of a name holds; nothing where there is none, or where it can't be opened
abbrev pub held_in : List MemoryFile → List ℕ → Option (List ℕ)
held_in files name = bytes_of (file_named files name)
