-- The ranges of what a payload of bytes holds.
use Rattle.std.specs.Prelude.{ℕ, ◌^◌, ◌<◌, List, slice_index}
use Rattle.mvt_wire.specs.Field.{Content, varint, fixed64, bytes, fixed32}

-- a list of bytes
abbrev pub AreBytes : List ℕ → Type 0
AreBytes b = (k : ℕ) → slice_index b k < 256

-- a content that bytes can spell
abbrev pub IsInRange : Content → Type 0
IsInRange (varint n) = n < 2 ^ 64
IsInRange (fixed64 n) = n < 2 ^ 64
IsInRange (bytes d) = AreBytes d
IsInRange (fixed32 n) = n < 2 ^ 32
