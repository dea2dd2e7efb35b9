-- What a person at a terminal is told below the program's lines.
use Rattle.std.specs.Prelude.{ℕ, ◌==◌, ◌&&◌, ◌||◌, not, Bool, List, [], ◌++◌, length, take, Option, Some, None, Result, Ok, Err, codes, if◌then◌else◌}
use Rattle.std.specs.declared.io.ErrorKind.{ErrorKind}
use Rattle.std.specs.declared.io.ErrorKind.TheVariants.{NotFound, PermissionDenied, IsADirectory}
use Rattle.mvt_places.specs.Lookalikes.{lookalike_of}
use Rattle.mvt_places.specs.Quoting.{shell_word}
use Rattle.mvt_places.specs.declared.lookalike.Lookalike.{Lookalike}
use Rattle.mvt_places.specs.declared.lookalike.Lookalike.TheVariants.{Gzip, Zlib, Zstd, Png, Sqlite, Pmtiles, Json, Html, Jpeg, Gif, Webp, FlatGeobuf, Xz, Bzip2, Zip, Pdf, OsmPbf, Xml, PlainText, Brotli, Mbtiles}
use Rattle.mvt_cli.specs.declared.hints.Oddity.{Oddity}
use Rattle.mvt_cli.specs.declared.hints.Oddity.TheVariants.{Looks, Unread}

abbrev pub look_of : Option Lookalike → Option Oddity
look_of None = None
look_of (Some lookalike) = Some (Looks lookalike)

-- what is odd about an input after a read: the first that gives bytes tells
abbrev pub odd_begin : Bool → List ℕ → Option Oddity → Option Oddity
odd_begin is_begun bytes oddity = if is_begun || (length bytes == 0) then oddity else look_of (lookalike_of bytes)

-- the same after a read that failed: why it did
abbrev pub odd_after : Bool → Result ℕ ErrorKind → List ℕ → Option Oddity → Option Oddity
odd_after is_begun (Ok count) buffer oddity = odd_begin is_begun (take count buffer) oddity
odd_after is_begun (Err kind) buffer oddity = Some (Unread kind)

-- an input is begun by the first read that gives bytes
abbrev pub begun_after : Bool → Result ℕ ErrorKind → Bool
begun_after is_begun (Ok count) = is_begun || not (count == 0)
begun_after is_begun (Err kind) = is_begun

-- a hint is told at a terminal, where a tile is refused or an input can't be read
abbrev pub is_told : ℕ → Bool → Bool
is_told status is_terminal = is_terminal && ((status == 1) || (status == 3))

-- what an input looks like, in words
unfoldable pub name_of : Lookalike → List ℕ
name_of Gzip = codes "gzip"
name_of Zlib = codes "zlib"
name_of Zstd = codes "zstd"
name_of Png = codes "a PNG picture"
name_of Sqlite = codes "MBTiles"
name_of Pmtiles = codes "PMTiles"
name_of Json = codes "JSON"
name_of Html = codes "HTML, as a server's page about an error"
name_of Jpeg = codes "a JPEG picture"
name_of Gif = codes "a GIF picture"
name_of Webp = codes "a WebP picture"
name_of FlatGeobuf = codes "FlatGeobuf"
name_of Xz = codes "xz"
name_of Bzip2 = codes "bzip2"
name_of Zip = codes "a ZIP archive"
name_of Pdf = codes "a PDF document"
name_of OsmPbf = codes "OpenStreetMap data (PBF)"
name_of Xml = codes "XML, as a server's message about an error"
name_of PlainText = codes "plain text, as a server's message about an error"
name_of Brotli = codes "brotli"
name_of Mbtiles = codes "MBTiles"

-- the command that gives a tile of it
unfoldable pub command_of : Lookalike → Option (List ℕ)
command_of Gzip = Some (codes "gunzip -c")
command_of Zlib = Some (codes "zlib-flate -uncompress <")
command_of Zstd = Some (codes "zstd -dc")
command_of Xz = Some (codes "xz -dc")
command_of Bzip2 = Some (codes "bzip2 -dc")
command_of Brotli = Some (codes "brotli -dc")
command_of Zip = Some (codes "unzip -p")
command_of Sqlite = Some (codes "mvt-tile")
command_of Mbtiles = Some (codes "mvt-tile")
command_of Pmtiles = Some (codes "mvt-tile")
command_of _ = None

-- what follows the file's name there: which tile of a store, and which file of an archive
unfoldable pub part_of : Lookalike → List ℕ
part_of Sqlite = codes " Z/X/Y"
part_of Mbtiles = codes " Z/X/Y"
part_of Pmtiles = codes " Z/X/Y"
part_of Zip = codes " NAME"
part_of _ = []

abbrev pub remedy : Option (List ℕ) → List ℕ → List ℕ → List ℕ
remedy None file part = codes "\n"
remedy (Some command) file part = codes ": " ++ (command ++ (codes " " ++ (file ++ (part ++ codes " | mvt check\n"))))

-- what can be done about an input, by its name
unfoldable pub hint_of : List ℕ → Oddity → List ℕ
hint_of file (Looks lookalike) =
    codes "mvt: it looks like " ++ (name_of lookalike ++ remedy (command_of lookalike) (shell_word file) (part_of lookalike))
hint_of file (Unread NotFound) = codes "mvt: " ++ (shell_word file ++ codes ": there is no such file\n")
hint_of file (Unread PermissionDenied) = codes "mvt: " ++ (shell_word file ++ codes ": no permission to read it\n")
hint_of file (Unread IsADirectory) =
    codes "mvt: "
    ++ (shell_word file ++ (codes ": it is a folder: mvt-audit " ++ (shell_word file ++ codes " --into audit\n")))
hint_of file (Unread kind) = []
