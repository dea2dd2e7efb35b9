-- What is said of a fault in plain words.
use Rattle.std.specs.Prelude.{ℕ, List, Option, Some, None, codes}
use Rattle.mvt_feature.specs.declared.cause.Cause.{Cause}
use Rattle.mvt_feature.specs.declared.cause.Cause.TheVariants.{Truncated, VarintRange, FieldNumber, WireType, WrongType, NumberRange, NotUtf8, NoVersion, NoName, ValueKind, GeomType, OddTags, KeyIndex, ValueIndex, RepeatedKey, Command, Count, Parameters, ZeroSegment, CoordinateRange, FirstRing, EndsEarly, RepeatedName, TooLarge, ParameterRange}
use Rattle.mvt_places.specs.declared.lookalike.Lookalike.{Lookalike}
use Rattle.mvt_places.specs.declared.lookalike.Lookalike.TheVariants.{Gzip, Zlib, Zstd, Png, Sqlite, Pmtiles, Json, Html, Jpeg, Gif, Webp, FlatGeobuf, Xz, Bzip2, Zip, Pdf, OsmPbf, Xml, PlainText, Brotli, Mbtiles}
use Rattle.mvt_places.specs.Lookalikes.{lookalike_of}

-- which rule is broken
unfoldable pub cause_sentence : Cause → List ℕ
cause_sentence Truncated = codes "The bytes end too early: a field reaches past the end of what holds it, or a number has no end."
cause_sentence VarintRange = codes "A number is spelled in ten bytes and the tenth is above 1, so it has more than 64 bits."
cause_sentence FieldNumber = codes "A field begins here whose number is 0 or far too large."
cause_sentence WireType = codes "A field begins here with a wire type that isn't allowed: only 0, 1, 2 and 5 are."
cause_sentence WrongType = codes "A field has another wire type than the one it must have. Its value can't be read."
cause_sentence NumberRange = codes "A number is above 4,294,967,295 and doesn't fit into 32 bits."
cause_sentence NotUtf8 = codes "A text isn't UTF-8."
cause_sentence NoVersion = codes "The layer has no version. Each layer must say its version, in field 15."
cause_sentence NoName = codes "The layer has no name. Each layer must have one, in field 1; it may be empty."
cause_sentence ValueKind = codes
    "The value has none or several of the seven kinds (string, float, double, int, uint, sint, bool). It must have one."
cause_sentence GeomType = codes "The geometry type is above 3. There are 0 unknown, 1 point, 2 line and 3 polygon."
cause_sentence OddTags = codes "The feature has an odd number of tags. Tags come in pairs: the index of a key, then that of a value."
cause_sentence KeyIndex = codes "A tag says a key that the layer doesn't have. Keys are counted from 0."
cause_sentence ValueIndex = codes "A tag says a value that the layer doesn't have. Values are counted from 0."
cause_sentence RepeatedKey = codes "The feature has one key twice: it stood earlier among its tags."
cause_sentence Command = codes "The integer isn't the command that is due here. Points are one MoveTo; lines are MoveTo and LineTo in turn; rings are MoveTo, LineTo and ClosePath."
cause_sentence Count = codes "The command has a count that isn't allowed here."
cause_sentence Parameters = codes "The command wants more integers than the geometry has left."
cause_sentence ZeroSegment = codes "A line goes nowhere: this LineTo moves by (0, 0)."
cause_sentence CoordinateRange = codes
    "The position leaves the range: coordinates are from -2,147,483,647 to 2,147,483,647, and so are steps."
cause_sentence FirstRing = codes
    "The first ring goes the wrong way round. An exterior ring has positive area, which is clockwise on the screen."
cause_sentence EndsEarly = codes "The geometry is empty or ends where a command is still due."
cause_sentence RepeatedName = codes "The layer has the name of an earlier layer. Names are given once in a tile."
cause_sentence TooLarge = codes "The input is longer than 67,108,864 bytes (64 MiB)."
cause_sentence ParameterRange = codes "A parameter is 4,294,967,295. Its step would be -2,147,483,648, which is out of range."

-- what an input looks like that is no tile
unfoldable pub lookalike_sentence : Lookalike → List ℕ
lookalike_sentence Gzip = codes "This isn't a tile, but looks like gzip. A tile is read uncompressed: unpack it first."
lookalike_sentence Zlib = codes "This isn't a tile, but looks like zlib. A tile is read uncompressed: unpack it first."
lookalike_sentence Zstd = codes "This isn't a tile, but looks like zstd. A tile is read uncompressed: unpack it first."
lookalike_sentence Png = codes "This isn't a tile, but looks like a PNG picture."
lookalike_sentence Sqlite = codes "This isn't a tile, but looks like a SQLite database, as MBTiles are: take a tile out of it first."
lookalike_sentence Pmtiles = codes "This isn't a tile, but looks like a PMTiles archive: take a tile out of it first."
lookalike_sentence Json = codes "This isn't a tile, but looks like JSON."
lookalike_sentence Html = codes "This isn't a tile, but looks like HTML. It may be a server's page about an error."
lookalike_sentence Jpeg = codes "This isn't a tile, but looks like a JPEG picture."
lookalike_sentence Gif = codes "This isn't a tile, but looks like a GIF picture."
lookalike_sentence Webp = codes "This isn't a tile, but looks like a WebP picture."
lookalike_sentence FlatGeobuf = codes "This isn't a tile, but looks like a FlatGeobuf file."
lookalike_sentence Xz = codes "This isn't a tile, but looks like xz. A tile is read uncompressed: unpack it first."
lookalike_sentence Bzip2 = codes "This isn't a tile, but looks like bzip2. A tile is read uncompressed: unpack it first."
lookalike_sentence Zip = codes "This isn't a tile, but looks like a ZIP archive: unpack it first."
lookalike_sentence Pdf = codes "This isn't a tile, but looks like a PDF document."
lookalike_sentence OsmPbf = codes "This isn't a tile, but looks like OpenStreetMap data (PBF), which has no tiles."
lookalike_sentence Xml = codes "This isn't a tile, but looks like XML. It may be a server's message about an error."
lookalike_sentence PlainText = codes "This isn't a tile, but looks like plain text. It may be a server's message about an error."
lookalike_sentence Brotli = codes "This isn't a tile, but looks like brotli. A tile is read uncompressed: unpack it first."
lookalike_sentence Mbtiles = codes
    "This isn't a tile, but looks like a SQLite database, as MBTiles are: take a tile out of it first. `mvt-audit` judges each tile in it."

abbrev pub sentence_by : Option Lookalike → Cause → List ℕ
sentence_by (Some lookalike) cause = lookalike_sentence lookalike
sentence_by None cause = cause_sentence cause

-- what the input looks like comes first
abbrev pub sentence_for : List ℕ → Cause → List ℕ
sentence_for input cause = sentence_by (lookalike_of input) cause
