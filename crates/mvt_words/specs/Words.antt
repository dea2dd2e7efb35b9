-- The command line of `mvt`, as clap's own definition of a command and of what it makes of words.
use Rattle.std.specs.Prelude.{◌≡◌, ℕ, ◌⊎◌, Bool, false, true, List, [], ◌∷◌, Option, Some, None, codes, bytes_eq, unwrap_or, if◌then◌else◌, ⊤}
use Rattle.clap.specs.Lexer.{usize_max}
use Rattle.clap.specs.Words.{App, Row, Rule, new_app, new_rule, all_of, with_rule, with_subcommand, fault_of, matches_of, subcommand_of}
use Rattle.clap.specs.Kinds.{Kinds}
use Rattle.clap.specs.declared.builder.action.ArgAction.TheVariants.{Append, SetTrue}
use Rattle.mvt_tasks.specs.declared.task.Task.{Task}
use Rattle.mvt_tasks.specs.declared.task.Task.TheVariants.{Fields, Show, Draw, Check, Explain, Lint, Rewrite, Mend, Extract, Version}

-- the names of layers: one or more
abbrev pub names_rule : Rule
names_rule = record (new_rule (codes "name")) {
  action = Some Append;
  range = Some (record { start_inclusive = 1; end_inclusive = usize_max });
  required = true;
}

-- the subcommand `extract NAME..`
unfoldable pub extract_app : App
extract_app = with_rule (new_app (codes "extract")) names_rule

-- the names of files: none or more
abbrev pub files_rule : Rule
files_rule = record (new_rule (codes "file")) {
  action = Some Append;
  range = Some (record { start_inclusive = 1; end_inclusive = usize_max });
}

-- a subcommand that takes the names of files, as `check FILE..`
unfoldable pub files_app : List ℕ → App
files_app name = with_rule (new_app name) files_rule

-- the option `--version`, or `-V`
abbrev pub version_rule : Rule
version_rule = record (new_rule (codes "version")) {
  long = Some (codes "version");
  short = Some 86;
  action = Some SetTrue;
}

-- the command `mvt` without its subcommands
unfoldable pub bare_mvt : App
bare_mvt = with_rule (new_app (codes "mvt")) version_rule

-- with a subcommand that takes no words of its own
abbrev pub with_bare : App → List ℕ → App
with_bare app name = with_subcommand app (new_app name).top

-- the command `mvt` with its subcommands
unfoldable pub mvt : App
unfolding bare_mvt extract_app files_app
mvt =
    with_subcommand
    (with_bare
    (with_bare
    (with_subcommand
    (with_subcommand
    (with_subcommand (with_bare (with_bare (with_bare bare_mvt (codes "fields")) (codes "show"))
    (codes "draw")) (files_app (codes "check")).top)
    (files_app (codes "explain")).top)
    (files_app (codes "lint")).top)
    (codes "rewrite"))
    (codes "mend"))
    extract_app.top

-- why the words are refused, or nothing; an empty list isn't given to clap
abbrev pub faults_in : List (List ℕ) → Kinds
faults_in [] = []
faults_in (word ∷ words) = fault_of mvt (word ∷ words)

-- the subcommand that the words name, and what it was given
abbrev pub subcommand_in : List (List ℕ) → Option (List ℕ × List Row)
subcommand_in [] = None
subcommand_in (word ∷ words) = subcommand_of mvt (word ∷ words)

-- the words that clap found for an argument
abbrev pub texts_given : List ℕ → List Row → List (List ℕ)
texts_given key rows = unwrap_or (all_of key rows) []

-- the names of layers in a line
abbrev pub names_given : List Row → List (List ℕ)
names_given rows = texts_given (codes "name") rows

-- the task of a subcommand
abbrev pub task_named : List ℕ → List Row → Task
task_named name rows =
    if bytes_eq name (codes "fields") then Fields
    else (if bytes_eq name (codes "show") then Show
    else (if bytes_eq name (codes "draw") then Draw
    else (if bytes_eq name (codes "explain") then Explain
    else (if bytes_eq name (codes "lint") then Lint
    else (if bytes_eq name (codes "rewrite") then Rewrite
    else (if bytes_eq name (codes "mend") then Mend
    else (if bytes_eq name (codes "extract") then Extract (names_given rows)
    else Check)))))))

-- of a line without a subcommand `check`
abbrev pub task_of_subcommand : Option (List ℕ × List Row) → Task
task_of_subcommand None = Check
task_of_subcommand (Some (name, rows)) = task_named name rows

-- the text of a flag that was given
abbrev pub is_true : List (List ℕ) → Bool
is_true (text ∷ []) = bytes_eq text (codes "true")
is_true _ = false

-- a flag was given
abbrev pub has_flag : List ℕ → List Row → Bool
has_flag key rows = is_true (texts_given key rows)

-- the flags among the words
abbrev pub flags_in : List (List ℕ) → List Row
flags_in [] = []
flags_in (word ∷ words) = matches_of mvt (word ∷ words)

-- the version, if a flag asks for it, whatever else there is
abbrev pub task_of_matches : List Row → Option (List ℕ × List Row) → Task
task_of_matches flags subcommand =
    if has_flag (codes "version") flags then Version else task_of_subcommand subcommand

-- what the words ask for
abbrev pub task_in : List (List ℕ) → Task
task_in words = task_of_matches (flags_in words) (subcommand_in words)

-- the files that a subcommand names
abbrev pub files_named : List ℕ → List Row → List (List ℕ)
files_named name rows =
    if bytes_eq name (codes "check") then texts_given (codes "file") rows
    else (if bytes_eq name (codes "explain") then texts_given (codes "file") rows
    else (if bytes_eq name (codes "lint") then texts_given (codes "file") rows else []))

-- the names of files in a line
abbrev pub files_of_subcommand : Option (List ℕ × List Row) → List (List ℕ)
files_of_subcommand None = []
files_of_subcommand (Some (name, rows)) = files_named name rows

-- no files, if a flag asks for the version
abbrev pub files_of_matches : List Row → Option (List ℕ × List Row) → List (List ℕ)
files_of_matches flags subcommand =
    if has_flag (codes "version") flags then [] else files_of_subcommand subcommand

-- the files that the words name; where there are some, these are checked, explained or linted, and not the input
abbrev pub files_in : List (List ℕ) → List (List ℕ)
files_in words = files_of_matches (flags_in words) (subcommand_in words)

-- the subcommands that take no words of their own, and the option that wants none beside it
abbrev pub IsBare : List ℕ → Type 0
IsBare word = (word ≡ codes "fields")
    ⊎ ((word ≡ codes "show") ⊎ ((word ≡ codes "draw") ⊎ ((word ≡ codes "check") ⊎ ((word ≡ codes "explain") ⊎ ((word ≡ codes "lint") ⊎ ((word ≡ codes "rewrite") ⊎ ((word ≡ codes "mend") ⊎ (word ≡ codes "--version"))))))))

-- a line that is never refused: nothing, the program's name, or its name and a subcommand without
-- names
abbrev pub IsPlainLine : List (List ℕ) → Type 0
IsPlainLine [] = ⊤
IsPlainLine (name ∷ []) = ⊤
IsPlainLine (name ∷ word ∷ []) = IsBare word
IsPlainLine (name ∷ word ∷ more ∷ words) = ⊥
