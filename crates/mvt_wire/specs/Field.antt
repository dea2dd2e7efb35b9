-- Fields: Protocol Buffers, Encoding, "Message Structure".
use Rattle.std.specs.Prelude.{◌≡◌, ℕ, ◌+◌, ◌*◌, ◌^◌, ◌<◌, ◌≤◌, List, ◌++◌, length, take, drop, ⊤}
use Rattle.std.specs.Borrow.{Bor}
use Rattle.byteorder.specs.Endian.{little_number}
use Rattle.mvt_wire.specs.declared.field.Field.{Field}
use Rattle.mvt_wire.specs.declared.field.Payload.{Payload}
use Rattle.mvt_wire.specs.declared.field.Payload.TheVariants.{Varint, I64, Len, I32}
use Rattle.mvt_wire.specs.Varint.{Spells}

-- what a field holds, by its wire type
pub data Content : Type 0 where
  varint : ℕ → Content
  fixed64 : ℕ → Content
  bytes : List ℕ → Content
  fixed32 : ℕ → Content

-- the numbers of wire types (Protocol Buffers, Encoding)
abbrev pub wire_type : Content → ℕ
wire_type (varint n) = 0
wire_type (fixed64 n) = 1
wire_type (bytes d) = 2
wire_type (fixed32 n) = 5

-- b spells the content: a varint, eight or four bytes with the lowest first, or a length and as many bytes
abbrev pub IsPayload : List ℕ → Content → Type 0
IsPayload b (varint n) = Spells b n
IsPayload b (fixed64 n) = (length b ≡ 8) × (n ≡ little_number 8 b)
IsPayload b (bytes d) = (size : List ℕ) × Spells size (length d) × (b ≡ size ++ d)
IsPayload b (fixed32 n) = (length b ≡ 4) × (n ≡ little_number 4 b)

-- b spells one field: its tag, which is number * 8 + wire type and below 2^32, then its payload
pub record IsField (b : List ℕ) (number : ℕ) (content : Content) : Type 0 where
  pub tag : List ℕ
  pub payload : List ℕ
  pub joined : b ≡ tag ++ payload
  pub tagged : Spells tag (8 * number + wire_type content)
  pub tag_fits : 8 * number + wire_type content < 2 ^ 32
  pub numbered : 1 ≤ number
  pub carries : IsPayload payload content

-- no prefix of b is a field
abbrev pub StartsNoField : List ℕ → Type 0
StartsNoField b = (front back : List ℕ) (number : ℕ) (content : Content) → b ≡ front ++ back → IsField front number content → ⊥

-- a field in a list: the places of its tag and of its payload (of bytes: after their length), its number and content
pub record Entry : Type 0 where
  pub at : ℕ
  pub body : ℕ
  pub number : ℕ
  pub content : Content

-- how many bytes the content takes from its body on
abbrev pub body_size : List ℕ → Content → ℕ
body_size payload (varint n) = length payload
body_size payload (fixed64 n) = length payload
body_size payload (bytes d) = length d
body_size payload (fixed32 n) = length payload

-- b spells this field, and stands at this place
pub record IsFieldAt (at : ℕ) (b : List ℕ) (e : Entry) : Type 0 where
  pub field : IsField b e.number e.content
  pub begins : e.at ≡ at
  pub ends : e.body + body_size field.payload e.content ≡ at + length b

-- the program's values by what they hold
abbrev pub content_of : Payload → Content
content_of (Varint n) = varint n
content_of (I64 n) = fixed64 n
content_of (Len d) = bytes d.now
content_of (I32 n) = fixed32 n

-- a field as contracts see it
abbrev pub entry_of : Field → Entry
entry_of f = record { at = f.at; body = f.body; number = f.number; content = content_of f.payload }

-- bytes of a field are those of the source from its body on
abbrev pub IsSliceAt : List ℕ → ℕ → Content → Type 0
IsSliceAt source body (varint n) = ⊤
IsSliceAt source body (fixed64 n) = ⊤
IsSliceAt source body (bytes d) = (body + length d ≤ length source) × (d ≡ take (length d) (drop body source))
IsSliceAt source body (fixed32 n) = ⊤

-- they lie in the source's memory, at place body of it; from is the place at which the slice `source` begins
abbrev pub LiesAt : Bor (List ℕ) → ℕ → ℕ → Payload → Type 0
LiesAt source from body (Varint n) = ⊤
LiesAt source from body (I64 n) = ⊤
LiesAt source from body (Len d) = (d.ref_ptr.0 ≡ source.ref_ptr.0) × (d.ref_ptr.1 + from ≡ source.ref_ptr.1 + body)
LiesAt source from body (I32 n) = ⊤
