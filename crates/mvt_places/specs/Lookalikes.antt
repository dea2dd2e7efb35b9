-- What an input looks like that is no tile. It is asked only where an input is refused.
use Rattle.std.specs.Prelude.{ℕ, ◌+◌, ◌*◌, ◌/◌, ◌%◌, ◌==◌, ◌&&◌, ◌||◌, not, Bool, false, List, [], ◌∷◌, length, take, drop, Option, Some, None, codes, nat_eq, nat_lt, nat_le, if◌then◌else◌}
use Rattle.std.specs.List.{starts_with, list_all}
use Rattle.mvt_places.specs.declared.lookalike.Lookalike.{Lookalike}
use Rattle.mvt_places.specs.declared.lookalike.Lookalike.TheVariants.{Gzip, Zlib, Zstd, Png, Sqlite, Pmtiles, Json, Html, Jpeg, Gif, Webp, FlatGeobuf, Xz, Bzip2, Zip, Pdf, OsmPbf, Xml, PlainText, Brotli, Mbtiles}

-- RFC 1950, 2.2: method 8, a window of at most 32 KiB, and both bytes as one number a multiple of 31
abbrev pub is_zlib : List ℕ → Bool
is_zlib (a ∷ b ∷ bs) = (a % 16 == 8) && (nat_lt a 128 && ((256 * a + b) % 31 == 0))
is_zlib _ = false

-- the text stands somewhere in the bytes
unfoldable pub holds : List ℕ → List ℕ → Bool
holds text [] = false
holds text (b ∷ bs) = starts_with nat_eq (b ∷ bs) text || holds text bs

-- a column of the tables of MBTiles (its specification 1.3, Tiles), which SQLite keeps near the beginning, in the text of the
-- schema
unfoldable pub database_of : List ℕ → Lookalike
database_of bytes = if holds (codes "tile_column") (take 65536 bytes) then Mbtiles else Sqlite

-- the bytes begin as a format does: ITU T.81, B.1.1.3; GIF89a, 17; the WebP container, "WebP File Header"; FlatGeobuf's magic
-- bytes; the .xz format, 2.1.1.1; bzip2; APPNOTE 4.3.7; ISO 32000-1, 7.5.2; the first BlobHeader of an OSM PBF file, behind its
-- length
unfoldable pub marked_of : List ℕ → Option Lookalike
marked_of bytes =
    if starts_with nat_eq bytes (255 ∷ 216 ∷ 255 ∷ []) then Some Jpeg
    else if starts_with nat_eq bytes (codes "GIF8") then Some Gif
    else if starts_with nat_eq bytes (codes "RIFF") && starts_with nat_eq (drop 8 bytes) (codes "WEBP") then Some Webp
    else if starts_with nat_eq bytes (102 ∷ 103 ∷ 98 ∷ 3 ∷ []) then Some FlatGeobuf
    else if starts_with nat_eq bytes (253 ∷ 55 ∷ 122 ∷ 88 ∷ 90 ∷ []) then Some Xz
    else if starts_with nat_eq bytes (codes "BZh") then Some Bzip2
    else if starts_with nat_eq bytes (80 ∷ 75 ∷ 3 ∷ 4 ∷ []) then Some Zip
    else if starts_with nat_eq bytes (codes "%PDF-") then Some Pdf
    else if starts_with nat_eq (drop 4 bytes) (codes "\n\tOSMHeader") then Some OsmPbf
    else None

-- tab, line feed, carriage return and space
abbrev pub is_space : ℕ → Bool
is_space b = (b == 9) || ((b == 10) || ((b == 13) || (b == 32)))

-- white space, ASCII that is printed, or a byte of a character beyond ASCII
abbrev pub is_of_text : ℕ → Bool
is_of_text b = is_space b || ((nat_lt 32 b && nat_lt b 127) || nat_lt 127 b)

abbrev pub is_letter : ℕ → Bool
is_letter b = (nat_le 65 b && nat_le b 90) || (nat_le 97 b && nat_le b 122)

-- two letters in a row, the first of which may be the byte before
abbrev pub has_letters : Bool → List ℕ → Bool
has_letters behind_letter [] = false
has_letters behind_letter (b ∷ bs) = (behind_letter && is_letter b) || has_letters (is_letter b) bs

-- At least four bytes, the first 512 of which are of a text. No tile begins so whose first field is a layer: its tag is 26
-- (4.1), a control character. A tile could whose first fields are none of the standard's.
abbrev pub is_text : List ℕ → Bool
is_text bytes = nat_lt 3 (length bytes) && (list_all is_of_text (take 512 bytes) && has_letters false (take 512 bytes))

abbrev pub unspaced : List ℕ → List ℕ
unspaced [] = []
unspaced (b ∷ bs) = if is_space b then unspaced bs else b ∷ bs

-- the beginning of a text, without a byte order mark (RFC 3629, 6) and white space
abbrev pub inner_text : List ℕ → List ℕ
inner_text bytes = unspaced (if starts_with nat_eq bytes (239 ∷ 187 ∷ 191 ∷ []) then drop 3 (take 512 bytes) else take 512 bytes)

-- a text's kind, by what stands behind its mark and white space: XML 1.0, 2.8; a tag; an object or a list (RFC 8259); without
-- a mark and white space a text that begins with a tag counts as HTML
unfoldable pub kind_of_text : List ℕ → Lookalike
kind_of_text text =
    if starts_with nat_eq text (codes "<?xml") then Xml
    else if starts_with nat_eq text (codes "<") then Html
    else if starts_with nat_eq text (codes "{") then Json
    else if starts_with nat_eq text (codes "[") then Json
    else PlainText

-- RFC 7932, 9.2, of a file of so many bytes, from the bits of its first block on: the block isn't the empty last one; its length
-- has four, five or six digits of 16, the highest of more than four not 0; it is compressed; and it is longer than the file and
-- shorter than 200 times it
unfoldable pub is_block : ℕ → ℕ → Bool
is_block size bits =
    let is_last = bits % 2 == 1 in
    let rest = if is_last then bits / 4 else bits / 2 in
    let most = if rest % 4 == 0 then 65536 else if rest % 4 == 1 then 1048576 else 16777216 in
    let block = rest / 4 % most + 1 in
    not (bits % 4 == 3) && (not (rest % 4 == 3) && ((is_last || (rest / 4 / most % 2 == 0))
    && (((most == 65536) || nat_lt (most / 16) block) && (nat_lt size block && nat_lt block (200 * size)))))

-- behind the bits of the window: one, four or seven (RFC 7932, 9.1)
unfoldable pub behind_window : ℕ → ℕ
behind_window bits = if bits % 2 == 0 then bits / 2 else if bits / 2 % 8 == 0 then bits / 128 else bits / 16

-- Brotli has no mark, but a window, one spelling of which isn't allowed, and a block. The lowest bits come first. No tile whose
-- first field is a layer begins so: its tag is 26.
unfoldable pub is_brotli : List ℕ → Bool
is_brotli (a ∷ b ∷ c ∷ d ∷ e ∷ bs) =
    let bits = a + 256 * b + 65536 * c + 16777216 * d + 4294967296 * e in
    nat_lt 14 (length bs) && (not (bits % 128 == 17) && is_block (5 + length bs) (behind_window bits))
is_brotli _ = false

-- what has no mark: a text, or brotli
abbrev pub unmarked_of : List ℕ → Option Lookalike
unmarked_of bytes = if is_text bytes then Some (kind_of_text (inner_text bytes)) else if is_brotli bytes then Some Brotli else None

abbrev pub first_of : Option Lookalike → Option Lookalike → Option Lookalike
first_of (Some first) second = Some first
first_of None second = second

-- the bytes begin as a format does: RFC 1952, 2.3.1; RFC 8878, 3.1.1; the PNG specification, 5.2; the file formats of
-- SQLite and of PMTiles; an object or a list; a tag; or else as the definitions above say
unfoldable pub lookalike_of : List ℕ → Option Lookalike
lookalike_of bytes =
    if starts_with nat_eq bytes (31 ∷ 139 ∷ []) then Some Gzip
    else if is_zlib bytes then Some Zlib
    else if starts_with nat_eq bytes (40 ∷ 181 ∷ 47 ∷ 253 ∷ []) then Some Zstd
    else if starts_with nat_eq bytes (137 ∷ 80 ∷ 78 ∷ 71 ∷ []) then Some Png
    else if starts_with nat_eq bytes (codes "SQLite format 3") then Some (database_of bytes)
    else if starts_with nat_eq bytes (codes "PMTiles") then Some Pmtiles
    else if starts_with nat_eq bytes (codes "{") then Some Json
    else if starts_with nat_eq bytes (codes "[") then Some Json
    else if starts_with nat_eq bytes (codes "<") then Some Html
    else first_of (marked_of bytes) (unmarked_of bytes)

-- its number in mvt.h
abbrev pub lookalike_number : Lookalike → ℕ
lookalike_number Gzip = 1
lookalike_number Zlib = 2
lookalike_number Zstd = 3
lookalike_number Png = 4
lookalike_number Sqlite = 5
lookalike_number Pmtiles = 6
lookalike_number Json = 7
lookalike_number Html = 8
lookalike_number Jpeg = 9
lookalike_number Gif = 10
lookalike_number Webp = 11
lookalike_number FlatGeobuf = 12
lookalike_number Xz = 13
lookalike_number Bzip2 = 14
lookalike_number Zip = 15
lookalike_number Pdf = 16
lookalike_number OsmPbf = 17
lookalike_number Xml = 18
lookalike_number PlainText = 19
lookalike_number Brotli = 20
lookalike_number Mbtiles = 21
