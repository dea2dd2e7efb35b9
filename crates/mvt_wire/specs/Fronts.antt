-- What stands at the front of a list of bytes, as functions. The laws `number_function` and
-- `field_function` say that these are the relations `Spells`, `IsFieldAt` and `IsRestCause`.
use Rattle.std.specs.Prelude.{ℕ, suc, ◌+◌, ◌/◌, ◌%◌, ◌^◌, Bool, ◌&&◌, List, [], ◌∷◌, length, take, drop, Result, Ok, Err, if◌then◌else◌, nat_lt, nat_le, ◌==◌}
use Rattle.byteorder.specs.Endian.{little_number}
use Rattle.mvt_wire.specs.declared.fault.WireCause.{WireCause}
use Rattle.mvt_wire.specs.declared.fault.WireCause.TheVariants.{Truncated, FieldNumber, WireType}
use Rattle.mvt_wire.specs.Varint.{groups_from, spell_cause}
use Rattle.mvt_wire.specs.Field.{Content, varint, fixed64, bytes, fixed32, Entry}

-- a step and then the next, as `?` joins them
infixl 10 ◌>>=◌
abbrev pub ◌>>=◌ : {A B : Type 0} → Result A WireCause → (A → Result B WireCause) → Result B WireCause
(Ok a) >>= f = f a
(Err e) >>= f = Err e

-- how many bytes at the front say that more follow
unfoldable pub going_on : List ℕ → ℕ
going_on [] = 0
going_on (b ∷ bs) = if nat_lt b 128 then 0 else suc (going_on bs)

-- the number of a spelling
abbrev pub number_of : List ℕ → ℕ
number_of b = groups_from 0 (take (going_on b + 1) b)

-- bytes that begin with a whole varint below 2^64
abbrev pub has_number : List ℕ → Bool
has_number b = nat_lt (going_on b) (length b) && (nat_lt (going_on b) 10 && nat_lt (number_of b) (2 ^ 64))

-- the number that a prefix spells, and how many bytes it has
unfoldable pub number_at : List ℕ → Result (ℕ × ℕ) WireCause
number_at b = if has_number b then Ok (number_of b, going_on b + 1) else Err (spell_cause b)

-- what a payload holds, where that stands, and how many bytes the payload has
pub record Load : Type 0 where
  pub content : Content
  pub start : ℕ
  pub size : ℕ

-- bytes after their length
abbrev pub bytes_at : List ℕ → ℕ × ℕ → Result Load WireCause
bytes_at b n =
    if nat_lt (length (drop n.1 b)) n.0 then Err Truncated
    else Ok (record { content = bytes (take n.0 (drop n.1 b)); start = n.1; size = n.1 + n.0 })

-- the payload of a wire type
unfoldable pub load_at : ℕ → List ℕ → Result Load WireCause
load_at w b =
    if w == 0 then (number_at b >>= λ n. Ok (record { content = varint n.0; start = 0; size = n.1 }))
    else if w == 1 then
    (if nat_lt (length b) 8 then Err Truncated else Ok (record { content = fixed64 (little_number 8 b); start = 0; size = 8 }))
    else if w == 2 then (number_at b >>= bytes_at b)
    else if w == 5 then
    (if nat_lt (length b) 4 then Err Truncated else Ok (record { content = fixed32 (little_number 4 b); start = 0; size = 4 }))
    else Err WireType

-- the field of a tag and of the payload after it, and its length
abbrev pub entry_with : ℕ → ℕ × ℕ → Load → Entry × ℕ
entry_with at tag load =
    (record { at = at; body = at + (tag.1 + load.start); number = tag.0 / 8; content = load.content }, tag.1 + load.size)

-- the field after a tag
abbrev pub field_with_tag : ℕ → List ℕ → ℕ × ℕ → Result (Entry × ℕ) WireCause
field_with_tag at b tag =
    if nat_lt tag.0 8 then Err FieldNumber
    else if nat_le (2 ^ 32) tag.0 then Err FieldNumber
    else (load_at (tag.0 % 8) (drop tag.1 b) >>= λ load. Ok (entry_with at tag load))

-- the field at the front, which stands at this place, and its length; or why there is none
unfoldable pub entry_at : ℕ → List ℕ → Result (Entry × ℕ) WireCause
entry_at at b = number_at b >>= field_with_tag at b

-- the cause of an error; Truncated stands for none
abbrev pub cause_of : {A : Type 0} → Result A WireCause → WireCause
cause_of (Ok a) = Truncated
cause_of (Err e) = e

-- why no field begins at the front of a rest
unfoldable pub rest_cause : List ℕ → WireCause
rest_cause rest = cause_of (entry_at 0 rest)
