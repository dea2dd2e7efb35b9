-- Where a fault stands in the bytes of a tile.
use Rattle.std.specs.Prelude.{ℕ, ◌+◌, ◌-◌, Bool, true, false, ◌||◌, min, List, length, take, slice_get, Option, Some, None, unwrap_or, if◌then◌else◌, nat_le, nat_lt, ◌&&◌, ◌≡◌, ◌<◌, ◌≤◌, ◌^◌, IfSome}
use Rattle.std.specs.List.{last_or}
use Rattle.std.specs.Option.{option_map, option_and_then, option_map_or}
use Rattle.mvt_wire.specs.Field.{Entry}
use Rattle.mvt_feature.specs.declared.cause.Cause.{Cause}
use Rattle.mvt_feature.specs.declared.cause.Cause.TheVariants.{Truncated, VarintRange, FieldNumber, WireType, WrongType, NumberRange, NotUtf8, NoVersion, NoName, ValueKind, GeomType, OddTags, KeyIndex, ValueIndex, RepeatedKey, Command, Count, Parameters, ZeroSegment, CoordinateRange, FirstRing, EndsEarly, RepeatedName, TooLarge, ParameterRange}
use Rattle.mvt_feature.specs.Features.{number_of}
use Rattle.mvt_tile.specs.declared.fault.Fault.{Fault}
use Rattle.mvt_places.specs.declared.message.Form.TheVariants.{Any, Bytes, Varint}
use Rattle.mvt_feature.specs.declared.numbers.feature.TheConstants.{ID, TAGS, GEOMETRY}
use Rattle.mvt_message.specs.declared.numbers.layer.TheConstants.{NAME, FEATURES, VALUES}
use Rattle.mvt_tile_value.specs.declared.numbers.tile.TheConstants.{LAYERS}
use Rattle.mvt_message.specs.LayerFields.{bytes_of}
use Rattle.mvt_places.specs.declared.span.Span.{Span}
use Rattle.mvt_places.specs.declared.target.Pick.{Pick}
use Rattle.mvt_places.specs.declared.target.Pick.TheVariants.{Nth, Last, Behind}
use Rattle.mvt_places.specs.declared.target.Target.{Target}
use Rattle.mvt_places.specs.declared.target.Target.TheVariants as at
use Rattle.mvt_places.specs.declared.message.Message.{Message as Held}
use Rattle.mvt_places.specs.declared.locating.Holders.{Holders as HoldersHeld}
use Rattle.mvt_places.specs.Messages.{Message, Ends, message_of, whole, nth_inside, holding_inside, last_formed, field_span, span, empty_at}
use Rattle.mvt_places.specs.Spans.{joined}

-- what the place of a cause tells
abbrev pub target_of : Cause → Target
target_of OddTags = at.Tags
target_of KeyIndex = at.Tag
target_of ValueIndex = at.Tag
target_of RepeatedKey = at.Tag
target_of Command = at.Integer
target_of Count = at.Integer
target_of Parameters = at.Integer
target_of ZeroSegment = at.Integer
target_of CoordinateRange = at.Integer
target_of FirstRing = at.Integer
target_of ParameterRange = at.Integer
target_of EndsEarly = at.Integers
target_of RepeatedName = at.Name
target_of TooLarge = at.Rest
target_of Truncated = at.Field
target_of VarintRange = at.Field
target_of FieldNumber = at.Field
target_of WireType = at.Field
target_of WrongType = at.Field
target_of NumberRange = at.Field
target_of NotUtf8 = at.Field
target_of NoVersion = at.Field
target_of NoName = at.Field
target_of ValueKind = at.Field
target_of GeomType = at.Field

-- ---- the layer and the feature

-- the message of an index, where there is an index and such a message
abbrev pub asked : ℕ → Option ℕ → Option Message → Option Message
asked k (Some index) (Some m) = nth_inside k index m
asked k _ _ = None

-- the input, of which so many bytes are judged
abbrev pub front : ℕ → List ℕ → Message
front limit input = whole (take limit input)

abbrev pub layer_of : ℕ → List ℕ → Fault → Option Message
layer_of limit input fault = asked LAYERS fault.layer (Some (front limit input))

abbrev pub feature_of : ℕ → List ℕ → Fault → Option Message
feature_of limit input fault = asked FEATURES fault.feature (layer_of limit input fault)

-- the name that counts: the bytes of the last
abbrev pub name_of : Message → Option (List ℕ)
name_of m = option_map (λ (e : Entry). bytes_of e.content) (last_formed Bytes NAME m)

-- the id that counts
abbrev pub id_of : Message → Option ℕ
id_of m = option_and_then (λ (e : Entry). number_of e.content) (last_formed Varint ID m)

-- ---- an offset

-- the message where it has the byte at a place, or else another
abbrev pub has_byte_at : ℕ → Message → Bool
has_byte_at place m = nat_le m.body place && nat_lt (place - m.body) (length m.payload)

abbrev pub innermost : ℕ → Option Message → Message → Message
innermost place None outer = outer
innermost place (Some m) outer = if has_byte_at place m then m else outer

-- the value of a layer that has the byte at a place
abbrev pub value_of : ℕ → Option Message → Option Message
value_of place None = None
value_of place (Some layer) = holding_inside VALUES place layer

-- the message that holds a place: the feature, a value of the layer, the layer or the input
abbrev pub holder : ℕ → Message → Option Message → Option Message → Message
holder place input layer feature =
    innermost place feature (innermost place (value_of place layer) (innermost place layer input))

-- ---- an index

-- where there is no such number: behind the last; without one, behind the last field of the numbers; without one, the
-- feature's own field
abbrev pub behind_field : Message → Option Entry → Span
behind_field m (Some e) = empty_at (field_span m e.at).end
behind_field m None = m.own

abbrev pub behind : Message → Option Entry → Option Span → Span
behind m field (Some last) = empty_at last.end
behind m field None = behind_field m field

-- the spelling that is meant
abbrev pub picked : Pick → List Span → Option Span
picked (Nth index) spans = slice_get spans index
picked Last spans = last_or None spans
picked Behind spans = None

abbrev pub number_span : ℕ → Pick → Message → Span
number_span k pick m = unwrap_or (picked pick (joined k m)) (behind m (last_formed Any k m) (last_or None (joined k m)))

-- in a feature that is there
abbrev pub in_feature : ℕ → ℕ → Pick → Option Message → Span
in_feature end k pick None = empty_at end
in_feature end k pick (Some m) = number_span k pick m

-- ---- the place

-- what holds a fault: the end of the input, the bytes of it that are judged, and the layer and the feature, where these
-- are there
pub record Holders : Type 0 where
  pub end : ℕ
  pub input : Message
  pub layer : Option Message
  pub feature : Option Message

abbrev pub holders_in : ℕ → List ℕ → Fault → Holders
holders_in limit input fault = record {
  end = length input;
  input = front limit input;
  layer = layer_of limit input fault;
  feature = feature_of limit input fault;
}

-- the field that begins at a place of the input
abbrev pub offset_span : Holders → ℕ → Span
offset_span h place =
    let within = min place (length h.input.payload) in
    let m = holder within h.input h.layer h.feature in
    field_span m (within - m.body)

-- the name of a layer that counts; without one, the field that begins at the place
abbrev pub named_span : Holders → ℕ → Option Message → Span
named_span h place None = offset_span h place
named_span h place (Some layer) = option_map_or (λ (e : Entry). field_span layer e.at) (last_formed Bytes NAME layer) (offset_span h place)

abbrev pub target_span : Target → ℕ → Holders → Span
target_span at.Field place h = offset_span h place
target_span at.Name place h = named_span h place h.layer
target_span at.Rest place h = span (min place h.end) h.end
target_span at.Tag place h = in_feature h.end TAGS (Nth place) h.feature
target_span at.Tags place h = in_feature h.end TAGS Last h.feature
target_span at.Integer place h = in_feature h.end GEOMETRY (Nth place) h.feature
target_span at.Integers place h = in_feature h.end GEOMETRY Behind h.feature

-- an index that is told, of a message that isn't there
abbrev pub is_missing : Option ℕ → Option Message → Bool
is_missing (Some index) None = true
is_missing _ _ = false

-- the place of a fault in the bytes; a layer or a feature that they don't have puts it at their end
abbrev pub place_in : Fault → Holders → Span
place_in fault h =
    if is_missing fault.layer h.layer || is_missing fault.feature h.feature then empty_at h.end
    else target_span (target_of fault.cause) fault.at h

-- ---- what `locate` answers

abbrev pub layer_name_at : ℕ → List ℕ → Fault → Option (List ℕ)
layer_name_at limit input fault = option_and_then name_of (layer_of limit input fault)

abbrev pub feature_id_at : ℕ → List ℕ → Fault → Option ℕ
feature_id_at limit input fault = option_and_then id_of (feature_of limit input fault)

abbrev pub place_at : ℕ → List ℕ → Fault → Span
place_at limit input fault = place_in fault (holders_in limit input fault)

-- ---- the program's values by what they hold

abbrev pub messages_of : Option Held → Option Message
messages_of m = option_map message_of m

abbrev pub holders_of : HoldersHeld → Holders
holders_of h = record { end = h.end; input = message_of h.input; layer = messages_of h.layer; feature = messages_of h.feature }

-- what holds a fault lies in the input
pub record AreWithin (h : Holders) : Type 0 where
  pub fits : h.end < 2 ^ 64
  pub front : h.input.body ≡ 0
  pub input : Ends h.end h.input
  pub layer : IfSome h.layer (Ends h.end)
  pub feature : IfSome h.feature (Ends h.end)

-- a place lies in a payload or at its end
abbrev pub Reaches : ℕ → Message → Type 0
Reaches place m = (m.body ≤ place) × (place ≤ m.body + length m.payload)
