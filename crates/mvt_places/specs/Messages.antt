-- The messages of a tile, by the places of their payloads in the input (Mapbox Vector Tile Specification 2.1, 4.1).
use Rattle.std.specs.Prelude.{ℕ, ◌+◌, ◌-◌, ◌==◌, Bool, true, false, ◌&&◌, List, length, drop, filter, find, slice_get, nat_le, nat_lt, ◌≤◌, Option, None, Result, Ok, Err}
use Rattle.std.specs.List.{last_or}
use Rattle.std.specs.Option.{option_map}
use Rattle.mvt_wire.specs.declared.fault.WireCause.{WireCause}
use Rattle.mvt_wire.specs.Field.{Content, varint, bytes, Entry}
use Rattle.mvt_wire.specs.Fronts.{entry_at}
use Rattle.mvt_wire.specs.Split.{split}
use Rattle.mvt_feature.specs.Selection.{only}
use Rattle.mvt_message.specs.LayerFields.{bytes_of}
use Rattle.mvt_places.specs.declared.message.Form.{Form}
use Rattle.mvt_places.specs.declared.message.Form.TheVariants.{Any, Bytes, Varint}
use Rattle.mvt_places.specs.declared.span.Span.{Span}
use Rattle.mvt_places.specs.declared.message.Message.{Message as Held}

abbrev pub span : ℕ → ℕ → Span
span start end = record { start = start; end = end }

-- no bytes, at a place
abbrev pub empty_at : ℕ → Span
empty_at at = span at at

-- where a field ends that was found at a place; without one, where all ends
abbrev pub end_with : ℕ → ℕ → Result (Entry × ℕ) WireCause → ℕ
end_with at all (Ok found) = at + found.1
end_with at all (Err cause) = all

-- where the field that begins at a place of a payload ends; the payload's end where none begins there
abbrev pub end_in : List ℕ → ℕ → ℕ
end_in payload at = end_with at (length payload) (entry_at at (drop at payload))

-- the bytes of its field, the place of its payload, and the payload
pub record Message : Type 0 where
  pub own : Span
  pub body : ℕ
  pub payload : List ℕ

-- the program's messages by what they hold
abbrev pub message_of : Held → Message
message_of m = record { own = m.own; body = m.body; payload = m.payload.now }

-- all bytes, as a message
abbrev pub whole : List ℕ → Message
whole input = record { own = span 0 (length input); body = 0; payload = input }

-- its fields, by their places in its payload
abbrev pub fields_of : Message → List Entry
fields_of m = (split m.payload).fields

-- the bytes of the field that begins at a place of its payload, or all bytes from there where none begins
abbrev pub field_span : Message → ℕ → Span
field_span m at = span (m.body + at) (m.body + end_in m.payload at)

-- a field of a message, as a message by its place in the input
abbrev pub inside : Message → Entry → Message
inside m e = record { own = field_span m e.at; body = m.body + e.body; payload = bytes_of e.content }

-- a field has bytes, or a varint
abbrev pub has_form : Form → Content → Bool
has_form Any content = true
has_form Bytes (bytes d) = true
has_form Bytes _ = false
has_form Varint (varint n) = true
has_form Varint _ = false

-- a field has this number and this form
abbrev pub is_of : Form → ℕ → Entry → Bool
is_of form k e = (e.number == k) && has_form form e.content

-- the fields of a number and a form, in order
abbrev pub formed : Form → ℕ → List Entry → List Entry
formed form k fields = filter (λ (e : Entry). has_form form e.content) (only k fields)

-- the message of a number and of an index among its like
abbrev pub nth_inside : ℕ → ℕ → Message → Option Message
nth_inside k index m = option_map (inside m) (slice_get (formed Bytes k (fields_of m)) index)

-- the bytes of a field have one at a place
abbrev pub has_byte : ℕ → Entry → Bool
has_byte at e = nat_le e.body at && nat_lt (at - e.body) (length (bytes_of e.content))

-- the message of a number that has the byte at a place of the input
abbrev pub holding_inside : ℕ → ℕ → Message → Option Message
holding_inside k at m = option_map (inside m) (find (has_byte (at - m.body)) (formed Bytes k (fields_of m)))

-- the last field of a number and a form, which is the one that counts
abbrev pub last_formed : Form → ℕ → Message → Option Entry
last_formed form k m = last_or None (formed form k (fields_of m))

-- a message, and its field, end by a place
abbrev pub Ends : ℕ → Message → Type 0
Ends place m = (m.body + length m.payload ≤ place) × (m.own.start ≤ m.own.end) × (m.own.end ≤ place)
