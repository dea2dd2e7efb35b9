-- What a run puts on its output and its error stream, and its status.
use Rattle.std.specs.Prelude.{◌≡◌, ℕ, ◌+◌, ◌<◌, ◌==◌, ◌⊎◌, Bool, false, true, List, [], ◌∷◌, ◌++◌, length, take, nat_lt, find, not, Option, Some, None, bytes_eq, if◌then◌else◌, codes, MatchOption, IfSome, IsSome, ⊤}
use Rattle.std.specs.Option.{option_map, option_or}
use Rattle.std.specs.List.{flat_map, list_any}
use Rattle.std.specs.Io.KnownBytes.{Appends}
use Rattle.mvt_io.specs.Counts.{counted}
use Rattle.mvt_io.specs.States.{Inflow, Outflow}
use Rattle.mvt_io.specs.Transfers.{TakesAtMost}
use Rattle.serde_json.specs.Written.{compact_text}
use Rattle.mvt_feature.specs.declared.cause.Cause.{Cause}
use Rattle.mvt_feature.specs.declared.cause.Cause.TheVariants.{ZeroSegment, FirstRing}
use Rattle.mvt_tile.specs.declared.fault.Fault.{Fault}
use Rattle.mvt_tile_value.specs.declared.tile.Tile.{Tile}
use Rattle.mvt_tile_value.specs.CanonicalTiles.{canonical}
use Rattle.mvt_tile.specs.Extraction.{is_named, pick}
use Rattle.mvt_tile.specs.Reading.{StopsEarly}
use Rattle.mvt_tile.specs.TileRules.{fault_within}
use Rattle.mvt_tile_value.specs.Tiles.{IsTile}
use Rattle.mvt_mend.specs.declared.change.Change.{Change}
use Rattle.mvt_mend.specs.declared.change.Unmended.{Unmended}
use Rattle.mvt_mend.specs.ChangeLines.{change_line, unmended_line}
use Rattle.mvt_mend.specs.Tiles.{cause_in, changes_in, mended}
use Rattle.mvt_places.specs.Explanations.{explanation}
use Rattle.mvt_view.specs.FaultLines.{fault_line}
use Rattle.mvt_view.specs.FieldLines.{fields_lines, fields_fault}
use Rattle.mvt_tile_value.specs.Lint.{findings_of}
use Rattle.mvt_view.specs.JsonForms.{json}
use Rattle.mvt_view.specs.LintLines.{lint_lines}
use Rattle.mvt_view.specs.Reports.{report_lines}
use Rattle.mvt_view.specs.Svg.{svg}
use Rattle.mvt_tasks.specs.declared.reply.Reply.{Reply}
use Rattle.mvt_tasks.specs.declared.viewing.View.{View}
use Rattle.mvt_tasks.specs.declared.viewing.View.TheVariants.{Json, Svg}
use Rattle.mvt_tasks.specs.declared.task.Task.{Task}
use Rattle.mvt_tasks.specs.declared.task.Task.TheVariants.{Fields, Show, Draw, Check, Explain, Lint, Rewrite, Mend, Extract, Version}

-- a text is written, and no line is told
abbrev pub done : List ℕ → Reply
done text = record { output = Some text; error_line = None; changes = None; has_findings = false }

-- nothing is written, and a line is told, which ends in a line feed
abbrev pub refused : List ℕ → Reply
refused line = record { output = None; error_line = Some line; changes = None; has_findings = false }

-- the lines of the fields, and the line of the fault after them
abbrev pub fields_reply : ℕ → List ℕ → Reply
fields_reply limit input = record {
  output = Some (fields_lines limit input);
  error_line = option_map (λ fault. fault_line fault ++ codes "\n") (fields_fault limit input);
  changes = None;
  has_findings = false;
}

-- the JSON, and a line feed
abbrev pub json_lines : Tile → List ℕ
json_lines tile = compact_text (json tile) ++ codes "\n"

-- the picture, and a line feed
abbrev pub svg_lines : Tile → List ℕ
svg_lines tile = svg tile ++ codes "\n"

-- the text of a view
abbrev pub view_lines : View → Tile → List ℕ
view_lines Json tile = json_lines tile
view_lines Svg tile = svg_lines tile

-- the report, which says yes exactly where the input is the tile's canonical bytes
abbrev pub check_lines : List ℕ → Tile → List ℕ
check_lines input tile = report_lines tile (bytes_eq input (canonical tile))

-- a line for each finding
abbrev pub lint_reply : Tile → Reply
lint_reply tile = record {
  output = Some (lint_lines tile);
  error_line = None;
  changes = None;
  has_findings = not (length (findings_of tile) == 0);
}

-- the canonical bytes, or the line of a result that is too large
unfoldable pub bytes_reply : ℕ → Tile → Reply
bytes_reply limit tile =
    if nat_lt limit (length (canonical tile)) then refused (codes "mvt: result larger than 67108864 bytes\n") else done (canonical tile)

-- no layer of version 2 has the name
abbrev pub is_missing : Tile → List ℕ → Bool
is_missing tile name = not (list_any (is_named name) tile.items)

-- the line of a layer that isn't there
abbrev pub missing_line : List ℕ → List ℕ
missing_line name = codes "mvt: layer not found: " ++ (name ++ codes "\n")

abbrev pub layers_reply_or : Option (List ℕ) → Reply → Reply
layers_reply_or None reply = reply
layers_reply_or (Some name) reply = refused (missing_line name)

-- the canonical bytes of the named layers, or the line of the first name that isn't there
abbrev pub layers_reply : ℕ → List (List ℕ) → Tile → Reply
layers_reply limit names tile = layers_reply_or (find (is_missing tile) names) (bytes_reply limit (pick tile names))

-- the reply for an input that is a tile, or that for its fault
abbrev pub IsJudged : ℕ → (Tile → Reply) → (Fault → Reply) → List ℕ → Reply → Type 0
IsJudged limit of_tile of_fault input reply =
    ((tile : Tile) × IsTile limit input tile × (reply ≡ of_tile tile))
    ⊎ ((fault : Fault) × (fault_within limit input ≡ Some fault) × (reply ≡ of_fault fault))

-- the line of a fault
abbrev pub fault_reply : Fault → Reply
fault_reply fault = refused (fault_line fault ++ codes "\n")

-- the reply for an input that is a tile, or the line of its fault
abbrev pub IsPrinted : ℕ → (Tile → Reply) → List ℕ → Reply → Type 0
IsPrinted limit of_tile input reply = IsJudged limit of_tile fault_reply input reply

-- says that a command mends the bytes, where they keep every rule then
abbrev pub mend_line : Option Fault → List ℕ
mend_line None = codes "mvt mend mends this.\n"
mend_line (Some fault) = []

-- what can be done about the two rules that `mend` mends
abbrev pub remedy : ℕ → List ℕ → Cause → List ℕ
remedy limit bytes ZeroSegment = mend_line (fault_within limit (mended bytes))
remedy limit bytes FirstRing = mend_line (fault_within limit (mended bytes))
remedy limit bytes cause = []

-- what is said of a fault of these bytes, and its line
abbrev pub told_why : ℕ → List ℕ → Fault → Reply
told_why limit bytes fault = record {
  output = Some (explanation limit bytes fault ++ remedy limit bytes fault.cause);
  error_line = Some (fault_line fault ++ codes "\n");
  changes = None;
  has_findings = false;
}

-- the report on an input that is a tile, or what is said of its fault, as these bytes of it tell
abbrev pub IsExplained : ℕ → List ℕ → List ℕ → Reply → Type 0
IsExplained limit bytes input reply = IsJudged limit (λ tile. done (check_lines input tile)) (told_why limit bytes) input reply

-- the lines of what is changed, if anything is
abbrev pub lines_of_changes : List Change → Option (List ℕ)
lines_of_changes [] = None
lines_of_changes (change ∷ changes) = Some (flat_map change_line (change ∷ changes))

-- the canonical bytes of a mended tile and what is changed, or the line of a result that is too large
abbrev pub mended_reply : ℕ → List Change → Tile → Reply
mended_reply limit changes tile =
    if nat_lt limit (length (canonical tile)) then refused (codes "mvt: result larger than 67108864 bytes\n")
    else record (done (canonical tile)) { changes = lines_of_changes changes }

-- the line of a fault, and that of why it isn't mended
abbrev pub unmended_reply : Unmended → Fault → Reply
unmended_reply cause fault = refused (fault_line fault ++ (codes "\n" ++ unmended_line cause))

-- an input that is a tile once mended, or the lines of its fault as it stands and of why it isn't mended
abbrev pub IsMendReply : ℕ → List ℕ → Reply → Type 0
IsMendReply limit input reply =
    ((tile : Tile) × IsTile limit (mended input) tile × (reply ≡ mended_reply limit (changes_in input) tile))
    ⊎ ((fault : Fault) × (fault_within limit input ≡ Some fault) × IsSome (fault_within limit (mended input))
    × (reply ≡ unmended_reply (cause_in input) fault))

-- the program's name and version
abbrev pub version_line : List ℕ
version_line = codes "mvt 0.4.0\n"

-- what a task answers for an input
abbrev pub IsReply : ℕ → Task → List ℕ → Reply → Type 0
IsReply limit Fields input reply = reply ≡ fields_reply limit input
IsReply limit Show input reply = IsPrinted limit (λ tile. done (json_lines tile)) input reply
IsReply limit Draw input reply = IsPrinted limit (λ tile. done (svg_lines tile)) input reply
IsReply limit Check input reply = IsPrinted limit (λ tile. done (check_lines input tile)) input reply
IsReply limit Explain input reply = IsExplained limit (take (limit + 1) input) input reply
IsReply limit Lint input reply = IsPrinted limit lint_reply input reply
IsReply limit Rewrite input reply = IsPrinted limit (bytes_reply limit) input reply
IsReply limit Mend input reply = IsMendReply limit input reply
IsReply limit (Extract names) input reply = IsPrinted limit (layers_reply limit names) input reply
IsReply limit Version input reply = reply ≡ done version_line

-- how far a task reads: at most one byte beyond the limit; or no further after a fault; or not at all
abbrev pub ReadsNoFurther : ℕ → Task → Inflow → Inflow → Type 0
ReadsNoFurther limit Fields old new = TakesAtMost (limit + 1) old.left new.left
ReadsNoFurther limit Show old new = StopsEarly limit new.given old.left new.left
ReadsNoFurther limit Draw old new = StopsEarly limit new.given old.left new.left
ReadsNoFurther limit Check old new = TakesAtMost (limit + 1) old.left new.left
ReadsNoFurther limit Explain old new = TakesAtMost (limit + 1) old.left new.left
ReadsNoFurther limit Lint old new = StopsEarly limit new.given old.left new.left
ReadsNoFurther limit Rewrite old new = StopsEarly limit new.given old.left new.left
ReadsNoFurther limit Mend old new = TakesAtMost (limit + 1) old.left new.left
ReadsNoFurther limit (Extract names) old new = StopsEarly limit new.given old.left new.left
ReadsNoFurther limit Version old new = new ≡ old

-- a line is told exactly with status 1; 5 says that there are findings
abbrev pub status_with : Option (List ℕ) → Bool → ℕ
status_with None false = 0
status_with None true = 5
status_with (Some line) has_findings = 1

-- the status of a reply that was given, and not of a failure
abbrev pub IsGiven : ℕ → Type 0
IsGiven status = (status < 2) ⊎ (status ≡ 5)

-- a reply without a line has a text
abbrev pub HasOutput : Reply → Type 0
HasOutput reply = MatchOption reply.error_line (IsSome reply.output) (λ line. ⊤)

-- a writer took a text whole, and then was flushed once
abbrev pub PutOut : Outflow → Outflow → List ℕ → Type 0
PutOut old new text = Appends old.taken new.taken text × (new.flushes ≡ counted old.flushes) × (new.flushed ≡ true)

-- the text of a reply was put out; of a reply without a text the output stayed as it was
abbrev pub PutsText : Type 0 → (List ℕ → Type 0) → Reply → Type 0
PutsText Untouched Writes reply = MatchOption reply.output Untouched Writes

-- what is told on the error stream: the line, or else what is changed
abbrev pub told_by : Reply → Option (List ℕ)
told_by reply = option_or reply.error_line reply.changes

-- a reply was given: its text was put out, its line or changes were told, and the status says whether there is a line, or findings
abbrev pub GivesReply : ℕ → Type 0 → (List ℕ → Type 0) → Type 0 → (List ℕ → Type 0) → Reply → Type 0
GivesReply status Untouched Writes Silent Prints reply =
    (status ≡ status_with reply.error_line reply.has_findings) × PutsText Untouched Writes reply × MatchOption (told_by reply) Silent Prints

-- what a task answers for what a reader had left, where that is known
abbrev pub IsReplyTo : ℕ → Task → Option (List ℕ) → Reply → Type 0
IsReplyTo limit task left reply = IfSome left (λ input. IsReply limit task input reply)
