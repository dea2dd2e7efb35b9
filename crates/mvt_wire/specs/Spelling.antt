-- The shortest spellings of fields: Protocol Buffers, Encoding, "Message Structure".
use Rattle.std.specs.Prelude.{◌≡◌, ℕ, ◌+◌, ◌*◌, ◌^◌, ◌<◌, ◌≤◌, List, ◌++◌, length, map}
use Rattle.std.specs.List.{flat_map}
use Rattle.byteorder.specs.Endian.{little_bytes}
use Rattle.mvt_wire.specs.Varint.{short}
use Rattle.mvt_wire.specs.Field.{Content, varint, fixed64, bytes, fixed32, wire_type, Entry}
use Rattle.mvt_wire.specs.Split.{Whole}

-- a payload in its shortest spelling
abbrev pub short_payload : Content → List ℕ
short_payload (varint n) = short n
short_payload (fixed64 n) = little_bytes 8 n
short_payload (bytes d) = short (length d) ++ d
short_payload (fixed32 n) = little_bytes 4 n

unfoldable pub short_field : ℕ → Content → List ℕ
short_field number content = short (8 * number + wire_type content) ++ short_payload content

-- the numbers of a packed field: Protocol Buffers, Encoding, "Packed Repeated Fields"
abbrev pub short_numbers : List ℕ → List ℕ
short_numbers ns = flat_map short ns

-- a field without its place
pub record Plain : Type 0 where
  pub number : ℕ
  pub content : Content

-- a field without its place
abbrev pub plain_of : Entry → Plain
plain_of e = record { number = e.number; content = e.content }

-- the shortest spellings of fields, joined
abbrev pub spelled : List Plain → List ℕ
spelled fs = flat_map (λ f. short_field f.number f.content) fs

-- b is these fields and nothing else, wherever they stand
abbrev pub IsWholeAs : List ℕ → List Plain → Type 0
IsWholeAs b fs = (es : List Entry) × Whole b es × (map plain_of es ≡ fs)

-- what a field can spell: numbers of 64 and 32 bits, a length of 64 bits, a field number of 29
abbrev pub FitsContent : Content → Type 0
FitsContent (varint n) = n < 2 ^ 64
FitsContent (fixed64 n) = n < 2 ^ 64
FitsContent (bytes d) = length d < 2 ^ 64
FitsContent (fixed32 n) = n < 2 ^ 32

-- a field that can be written: its number is in range and its payload fits
pub record IsFit (f : Plain) : Type 0 where
  pub first : 1 ≤ f.number
  pub last : f.number < 2 ^ 29
  pub content : FitsContent f.content
