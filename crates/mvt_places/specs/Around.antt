-- What a person wants to see round a fault: the layer and the feature, their integers, and the fields of a message.
use Rattle.std.specs.Prelude.{◌≡◌, ℕ, zero, suc, ◌+◌, min, List, [], ◌∷◌, length, drop, map, Option, None, Some, unwrap_or, Result, Ok, Err}
use Rattle.std.specs.List.{flat_map}
use Rattle.std.specs.Option.{option_map, option_map_or, option_and_then}
use Rattle.mvt_wire.specs.declared.fault.WireCause.{WireCause}
use Rattle.mvt_wire.specs.Field.{Content, varint, bytes, Entry, wire_type}
use Rattle.mvt_wire.specs.Fronts.{number_at}
use Rattle.mvt_feature.specs.Features.{number_in}
use Rattle.mvt_feature.specs.Selection.{only}
use Rattle.mvt_feature.specs.declared.numbers.feature.TheConstants.{GEOMETRY, TAGS, TYPE}
use Rattle.mvt_message.specs.declared.numbers.layer.TheConstants.{EXTENT, KEYS}
use Rattle.mvt_tile.specs.declared.fault.Fault.{Fault}
use Rattle.mvt_places.specs.declared.around.Around.{Around}
use Rattle.mvt_places.specs.declared.field_rows.Bounds.{Bounds}
use Rattle.mvt_places.specs.declared.field_rows.FieldRow.{FieldRow}
use Rattle.mvt_places.specs.declared.integers.Integer.{Integer}
use Rattle.mvt_places.specs.declared.message.Form.TheVariants.{Bytes, Varint}
use Rattle.mvt_places.specs.declared.span.Span.{Span}
use Rattle.mvt_places.specs.declared.target.Target.{Target}
use Rattle.mvt_places.specs.declared.target.Target.TheVariants as at
use Rattle.mvt_places.specs.Messages.{Message, fields_of, formed, inside, last_formed, span}
use Rattle.mvt_places.specs.Pens.{drawn_steps}
use Rattle.mvt_places.specs.Places.{Holders, feature_of, holder, holders_in, layer_of, target_of}

-- ---- the fields of a message

-- where the bytes of a message's field begin, where its payload begins, and where both end
abbrev pub bounds_of : Message → Bounds
bounds_of m = record { start = m.own.start; body = m.body; end = m.own.end }

abbrev pub field_row : Message → Entry → FieldRow
field_row m e = record { number = e.number; wire_type = wire_type e.content; bounds = bounds_of (inside m e) }

-- the fields of a message, up to the first bytes that are none
abbrev pub field_rows : Message → List FieldRow
field_rows m = map (field_row m) (fields_of m)

-- the keys of a layer, in order
abbrev pub keys_of : Message → List Bounds
keys_of m = map (λ (e : Entry). bounds_of (inside m e)) (formed Bytes KEYS (fields_of m))

-- the number that counts: that of the last field of a number
abbrev pub number_of : ℕ → Message → Option ℕ
number_of k m = number_in (last_formed Varint k m)

-- ---- the integers of tags and geometry (Protocol Buffers, Encoding, "Packed Repeated Fields")

-- the integer that is spelled at a place, and those that follow so many bytes; none where none is spelled
abbrev pub integer_before : ℕ → (ℕ → List Integer) → Result (ℕ × ℕ) WireCause → List Integer
integer_before at more (Ok found) = record { value = found.0; start = at; end = at + found.1 } ∷ more found.1
integer_before at more (Err cause) = []

-- the integers that are spelled one after the other, at most n of them; the first begins at a place
abbrev pub integers_from : ℕ → ℕ → List ℕ → List Integer
integers_from zero at b = []
integers_from (suc n) at b = integer_before at (λ size. integers_from n (at + size) (drop size b)) (number_at b)

-- those of a field of a message: one, or packed ones
abbrev pub integers_in : Message → ℕ → Content → List Integer
integers_in m body (varint n) = integers_from 1 (m.body + body) (drop body m.payload)
integers_in m body (bytes d) = integers_from (length d) (m.body + body) d
integers_in m body _ = []

-- those of all fields of a number, joined
abbrev pub integers_of : ℕ → Message → List Integer
integers_of k m = flat_map (λ (e : Entry). integers_in m e.body e.content) (only k (fields_of m))

-- the bytes of an integer
abbrev pub place_of : Integer → Span
place_of i = span i.start i.end

-- ---- where a fault is

-- the number of the feature's field whose integers its place counts, where it counts integers
abbrev pub list_of : Target → Option ℕ
list_of at.Tag = Some TAGS
list_of at.Tags = Some TAGS
list_of at.Integer = Some GEOMETRY
list_of at.Integers = Some GEOMETRY
list_of target = None

-- the message that holds a place of the input; behind the last byte that is judged, that of the last
abbrev pub holder_at : ℕ → Holders → Message
holder_at place h = holder (min place (length h.input.payload)) h.input h.layer h.feature

-- the message in which a fault is; the input where the layer or the feature isn't there
abbrev pub message_in : Target → ℕ → Holders → Message
message_in at.Field place h = holder_at place h
message_in at.Name place h = unwrap_or h.layer h.input
message_in at.Rest place h = h.input
message_in target place h = unwrap_or h.feature h.input

abbrev pub message_at : ℕ → List ℕ → Fault → Message
message_at limit input fault = message_in (target_of fault.cause) fault.at (holders_in limit input fault)

-- ---- all

abbrev pub geometry_at : ℕ → List ℕ → Fault → List Integer
geometry_at limit input fault = option_map_or (integers_of GEOMETRY) (feature_of limit input fault) []

pub record IsAround (limit : ℕ) (input : List ℕ) (fault : Fault) (around : Around) : Type 0 where
  pub layer : around.layer ≡ option_map bounds_of (layer_of limit input fault)
  pub extent : around.extent ≡ option_and_then (number_of EXTENT) (layer_of limit input fault)
  pub keys : around.keys.items ≡ option_map_or keys_of (layer_of limit input fault) []
  pub feature : around.feature ≡ option_map bounds_of (feature_of limit input fault)
  pub kind : around.kind ≡ option_and_then (number_of TYPE) (feature_of limit input fault)
  pub tags : around.tags.items ≡ option_map_or (integers_of TAGS) (feature_of limit input fault) []
  pub geometry : around.geometry.items ≡ geometry_at limit input fault
  pub steps : around.steps.items ≡ drawn_steps (geometry_at limit input fault)
  pub list : around.list ≡ list_of (target_of fault.cause)
  pub message : around.message ≡ bounds_of (message_at limit input fault)
  pub fields : around.fields.items ≡ field_rows (message_at limit input fault)
