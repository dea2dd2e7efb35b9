-- What the private calls of a decoder promise each other.
use Rattle.std.specs.Prelude.{◌≡◌, ℕ, ◌+◌, ◌≤◌, false, List, [], ◌∷◌, ◌++◌, length, drop, bytes_eq, Option, Some, None}
use Rattle.std.specs.List.{AllByRecursion, list_any, flat_map}
use Rattle.std.specs.Option.{option_or, option_map}
use Rattle.mvt_base.specs.Rules.{when, each, first}
use Rattle.mvt_wire.specs.declared.fault.WireCause.TheVariants.{Truncated}
use Rattle.mvt_wire.specs.Field.{Entry, bytes as held_bytes}
use Rattle.mvt_wire.specs.Fronts.{rest_cause}
use Rattle.mvt_wire.specs.Split.{Parts, split_from}
use Rattle.mvt_feature.specs.declared.cause.Cause.TheVariants.{RepeatedName}
use Rattle.mvt_feature.specs.declared.message_error.MessageError.{MessageError}
use Rattle.mvt_feature.specs.declared.message_error.MessageError.TheVariants as message
use Rattle.mvt_message.specs.declared.item.Item.{Item}
use Rattle.mvt_message.specs.ItemRules.{item_fault, payload_names}
use Rattle.mvt_message.specs.Items.{IsItem, names_in}
use Rattle.mvt_message.specs.ValidItems.{ValidItem}
use Rattle.mvt_tile.specs.declared.fault.Fault.{Fault as AFault}
use Rattle.mvt_tile.specs.declared.fault.DecodeError.{DecodeError}
use Rattle.mvt_tile.specs.declared.fault.DecodeError.TheVariants.{Memory, Fault}
use Rattle.mvt_tile_value.specs.declared.numbers.tile.TheConstants.{LAYERS}
use Rattle.mvt_tile.specs.Faults.{in_layer}
use Rattle.mvt_tile.specs.TileRules.{repeats, field_rules, rest_rules}
use Rattle.mvt_tile_value.specs.Tiles.{AreItems, HasDistinctNames}
use Rattle.mvt_tile.specs.Streams.{ReportsEarly}

-- items, each valid, with the set of their names, which are distinct
pub record AreKept (names : List (List ℕ)) (items : List Item) : Type 0 where
  pub named : (n : List ℕ) → list_any (bytes_eq n) names ≡ list_any (bytes_eq n) (flat_map names_in items)
  pub valid : AllByRecursion ValidItem items
  pub distinct : HasDistinctNames items

abbrev pub repeated_at : ℕ → ℕ → AFault
repeated_at n at = record { layer = Some n; feature = None; at = at; cause = RepeatedName }

-- the fault of a layer of this index, where the names before it have one of its own
abbrev pub name_fault : ℕ → List (List ℕ) → List (List ℕ) → ℕ → Option AFault
name_fault n names given at = first (when (repeats names given) (repeated_at n at))

-- the fault of a payload as a layer of this index tells it, or that of a repeated name
abbrev pub payload_fault : ℕ → List (List ℕ) → List ℕ → ℕ → ℕ → Option AFault
payload_fault n names d body at = option_or (option_map (in_layer n) (item_fault d body at)) (name_fault n names (payload_names d) at)

-- an error of a payload, as the layer of this index tells it
abbrev pub reported_in : ℕ → MessageError → DecodeError
reported_in n message.Memory = Memory
reported_in n (message.Fault feature at cause) = Fault (record { layer = Some n; feature = feature; at = at; cause = cause })

-- the field of a slice that stands at this place of the input holds this layer's payload
pub record IsPlaceOf (offset : ℕ) (x : Entry) (payload : List ℕ) (payload_at tag_at : ℕ) : Type 0 where
  pub is_layer : x.number ≡ LAYERS
  pub holds : x.content ≡ held_bytes payload
  pub payload_at_is : payload_at ≡ offset + x.body
  pub tag_at_is : tag_at ≡ offset + x.at

-- one item more, which this payload is, with a name that is new
abbrev pub IsOneItemMore : List Item → List Item → List ℕ → Type 0
IsOneItemMore old new d = (item : Item) × (new ≡ old ++ item ∷ []) × IsItem d item
    × (repeats (flat_map names_in old) (names_in item) ≡ false)

-- a number of layers and the set of their names are those of these items
pub record AreNamed (count : ℕ) (names : List (List ℕ)) (items : List Item) : Type 0 where
  pub counted : count ≡ length items
  pub named : (n : List ℕ) → list_any (bytes_eq n) names ≡ list_any (bytes_eq n) (flat_map names_in items)

-- the first fault of fields after others, or of their rest
abbrev pub fault_after : List Entry → Parts → Option AFault
fault_after front parts = option_or (first (each field_rules front parts.fields)) (first (rest_rules parts))

-- so many bytes are whole fields, which are items after whatever fields are the old items; the rest is unfinished
pub record IsJudged (offset : ℕ) (bytes : List ℕ) (old new : List Item) (used : ℕ) : Type 0 where
  pub place : (split_from offset bytes).rest_at ≡ offset + used
  pub within : used ≤ length bytes
  pub rest : (split_from offset bytes).rest ≡ drop used bytes
  pub unfinished : rest_cause (drop used bytes) ≡ Truncated
  pub items_are : (front : List Entry) → AreItems front old → AreItems (front ++ (split_from offset bytes).fields) new
  pub few : length new ≤ length old + used

-- an error tells the fault of the bytes, after whatever fields are the items
abbrev pub ReportsAfter : DecodeError → ℕ → List ℕ → List Item → Type 0
ReportsAfter error offset bytes items =
    (front : List Entry) → AreItems front items → ReportsEarly error (fault_after front (split_from offset bytes))
