-- A visitor that is told the items of a stream, which comes in pieces.
use Rattle.std.specs.Prelude.{◌≡◌, ℕ, ◌≤◌, List, [], length, map, Option, Some, None}
use Rattle.std.specs.List.{AllByRecursion}
use Rattle.mvt_wire.specs.Field.{Entry}
use Rattle.mvt_wire.specs.Split.{split}
use Rattle.mvt_message.specs.declared.item.Item.{Item}
use Rattle.mvt_message.specs.ValidItems.{ValidItem}
use Rattle.mvt_tile.specs.declared.fault.DecodeError.{DecodeError}
use Rattle.mvt_tile.specs.Inner.Judging.{AreNamed}
use Rattle.mvt_tile.specs.Streams.{IsLive, ReportsEarly}
use Rattle.mvt_tile.specs.TileRules.{fault_within, payload_of}
use Rattle.mvt_tile_value.specs.Tiles.{layers_of}

-- the payloads of the layers among fields, in their order, and among those of some bytes
abbrev pub payloads_of : List Entry → List (List ℕ)
payloads_of fields = map payload_of (layers_of fields)

abbrev pub payloads_in : List ℕ → List (List ℕ)
payloads_in input = payloads_of (split input).fields

-- what a decoder has beside its visitor: the error that it answers for good, how many items there were and the names of the
-- layers among them, and the bytes after the last whole field, with their place
pub record Visiting : Type 0 where
  pub failure : Option DecodeError
  pub count : ℕ
  pub names : List (List ℕ)
  pub raw : List ℕ
  pub offset : ℕ

-- the visitor has these items, each of them valid, and this is their number and the set of their names
abbrev pub HasNamed : (List Item → Type 0) → ℕ → List (List ℕ) → List Item → Type 0
HasNamed Has count names items = AreNamed count names items × AllByRecursion ValidItem items × Has items

-- a decoder that hasn't failed: the visitor has the items of the stream's whole fields, and the bytes are the rest
pub record HasVisited (limit : ℕ) (Has : List Item → Type 0) (d : Visiting) (stream : List ℕ) : Type 0 where
  pub items : List Item
  pub has : HasNamed Has d.count d.names items
  pub few : length items ≤ d.offset
  pub live : IsLive limit d.offset items d.raw stream

-- what a decoder holds of a stream: what is live of it, or the error that it keeps
abbrev pub StandsAs : ℕ → Option DecodeError → (List Item → Type 0) → Visiting → List ℕ → Type 0
StandsAs limit None Has d stream = HasVisited limit Has d stream
StandsAs limit (Some error) Has d stream = (d.raw ≡ []) × ReportsEarly error (fault_within limit stream)

-- a decoder and its visitor stand for this stream, by the payloads and the items of its whole fields
abbrev pub StandsFor : {V : Type 0} → ℕ → (List (List ℕ) → V → List Item → Type 0) → Visiting × V → List ℕ → Type 0
StandsFor limit Has (d, visitor) stream = StandsAs limit d.failure (Has (payloads_in stream) visitor) d stream
