-- The lines of an input's top-level fields, and the fault after them (Protocol Buffers, "Encoding", Message Structure).
use Rattle.std.specs.Prelude.{◌≡◌, ℕ, Bool, List, [], ◌∷◌, ◌++◌, length, take, nat_lt, Option, Some, None, codes, string_bytes, if◌then◌else◌}
use Rattle.std.specs.List.{flat_map}
use Rattle.std.specs.Fmt.{decimal}
use Rattle.mvt_wire.specs.declared.fault.WireCause.{WireCause}
use Rattle.mvt_wire.specs.declared.fault.WireCause.TheVariants as wire
use Rattle.mvt_wire.specs.Field.{Content, varint, fixed64, bytes, fixed32, Entry}
use Rattle.mvt_wire.specs.Fronts.{rest_cause}
use Rattle.mvt_wire.specs.Split.{Parts, split}
use Rattle.mvt_feature.specs.declared.cause.Cause.{Cause}
use Rattle.mvt_feature.specs.declared.cause.Cause.TheVariants.{Truncated, VarintRange, FieldNumber, WireType, TooLarge}
use Rattle.mvt_tile.specs.declared.fault.Fault.{Fault}
use Rattle.mvt_tile.specs.Faults.{outer_fault}
use Rattle.mvt_view.specs.declared.fields.FieldsText.{FieldsText}

-- the form of a field, and its number; of bytes, how many they are
abbrev pub content_text : Content → List ℕ
content_text (varint n) = codes "varint " ++ decimal n
content_text (fixed64 n) = codes "i64 " ++ decimal n
content_text (bytes d) = codes "len " ++ decimal (length d)
content_text (fixed32 n) = codes "i32 " ++ decimal n

-- a field's offset, its number and its content, and a line feed
unfoldable pub field_line : Entry → List ℕ
field_line e = decimal e.at ++ (codes " " ++ (decimal e.number ++ (codes " " ++ (content_text e.content ++ codes "\n"))))

-- a broken spelling as it is told: what is cut off by the limit alone is too large
abbrev pub reported_cause : Bool → WireCause → Cause
reported_cause is_longer wire.Truncated = if is_longer then TooLarge else Truncated
reported_cause is_longer wire.VarintRange = VarintRange
reported_cause is_longer wire.FieldNumber = FieldNumber
reported_cause is_longer wire.WireType = WireType

-- the fault of a field at the top
abbrev pub reported : Bool → ℕ → WireCause → Fault
reported is_longer at cause = outer_fault at (reported_cause is_longer cause)

-- the fault after the fields: the rest's, or the input's own where it goes on after the limit
abbrev pub rest_fault : ℕ → Bool → ℕ → List ℕ → Option Fault
rest_fault limit is_longer at [] = if is_longer then Some (outer_fault limit TooLarge) else None
rest_fault limit is_longer at (b ∷ bs) = Some (reported is_longer at (rest_cause (b ∷ bs)))

-- the fields and the rest of the first bytes of an input
abbrev pub front_parts : ℕ → List ℕ → Parts
front_parts limit input = split (take limit input)

unfoldable pub fields_lines : ℕ → List ℕ → List ℕ
fields_lines limit input = flat_map field_line (front_parts limit input).fields

unfoldable pub fields_fault : ℕ → List ℕ → Option Fault
fields_fault limit input =
    rest_fault limit (nat_lt limit (length input)) (front_parts limit input).rest_at (front_parts limit input).rest

-- the lines of an input's fields, and its fault
abbrev pub IsFieldsText : ℕ → List ℕ → FieldsText → Type 0
IsFieldsText limit input text =
    (string_bytes text.lines ≡ fields_lines limit input) × (text.fault ≡ fields_fault limit input)
