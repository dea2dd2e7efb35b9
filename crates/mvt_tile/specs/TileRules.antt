-- The rules that bind a tile's bytes (Mapbox Vector Tile Specification 2.1, 4.1), as a table.
use Rattle.std.specs.Prelude.{ℕ, Bool, true, false, ◌==◌, List, [], ◌∷◌, ◌++◌, length, take, nat_lt, Option, Some, None, bytes_eq, if◌then◌else◌}
use Rattle.std.specs.List.{list_any, flat_map}
use Rattle.mvt_base.specs.Rules.{Rules, when, map_faults, rows, under, each, first}
use Rattle.mvt_wire.specs.Field.{Content, varint, fixed64, bytes, fixed32, Entry}
use Rattle.mvt_wire.specs.Fronts.{rest_cause}
use Rattle.mvt_wire.specs.Split.{Parts, split}
use Rattle.mvt_feature.specs.declared.cause.Cause.TheVariants.{WrongType, RepeatedName, TooLarge}
use Rattle.mvt_feature.specs.Causes.{of_wire}
use Rattle.mvt_message.specs.ItemRules.{item_rules, payload_names}
use Rattle.mvt_tile.specs.declared.fault.Fault.{Fault}
use Rattle.mvt_tile_value.specs.declared.numbers.tile.TheConstants.{LAYERS}
use Rattle.mvt_tile_value.specs.Tiles.{layers_of}
use Rattle.mvt_tile.specs.Faults.{outer_fault, in_layer, is_open}

-- the bytes of a field, or none
abbrev pub bytes_in : Content → List ℕ
bytes_in (varint n) = []
bytes_in (fixed64 n) = []
bytes_in (bytes d) = d
bytes_in (fixed32 n) = []

abbrev pub payload_of : Entry → List ℕ
payload_of x = bytes_in x.content

-- the names of the layers of version 2 among fields
abbrev pub names_before : List Entry → List (List ℕ)
names_before xs = flat_map (λ x. payload_names (payload_of x)) (layers_of xs)

-- one of the names stands among the others
abbrev pub repeats : List (List ℕ) → List (List ℕ) → Bool
repeats others names = list_any (λ name. list_any (bytes_eq name) others) names

-- the rules of a layer after others
abbrev pub layer_rules : List Entry → Entry → List (ℕ × Rules Fault)
layer_rules front x =
    (1, map_faults (in_layer (length (layers_of front))) (item_rules (payload_of x) x.body x.at))
    ∷ ((
      2,
      when (repeats (names_before front) (payload_names (payload_of x)))
          (record { layer = Some (length (layers_of front)); feature = None; at = x.at; cause = RepeatedName }),
    )
    ∷ [])

abbrev pub is_bytes : Content → Bool
is_bytes (varint n) = false
is_bytes (fixed64 n) = false
is_bytes (bytes d) = true
is_bytes (fixed32 n) = false

-- the rules of a top-level field: only those that hold layers have any
unfoldable pub field_rules : List Entry → Entry → Rules Fault
field_rules front x =
    if x.number == LAYERS
    then (if is_bytes x.content then rows (layer_rules front x) else under 0 (when true (outer_fault x.at WrongType)))
    else []

-- no bytes are left after the fields
abbrev pub rest_rules_at : ℕ → List ℕ → Rules Fault
rest_rules_at at [] = []
rest_rules_at at (b ∷ bs) = when true (outer_fault at (of_wire (rest_cause (b ∷ bs))))

abbrev pub rest_rules : Parts → Rules Fault
rest_rules parts = rest_rules_at parts.rest_at parts.rest

-- the rules of a tile: those of its fields in order, then that of what is left
unfoldable pub tile_rules : List ℕ → Rules Fault
tile_rules input =
    each field_rules [] (split input).fields ++ under (length (split input).fields) (under 0 (rest_rules (split input)))

-- of an input that goes on after the limit: an unfinished field is too large, and so is the input
abbrev pub beyond : ℕ → Option Fault → Option Fault
beyond limit None = Some (outer_fault limit TooLarge)
beyond limit (Some fault) = Some (if is_open fault then outer_fault fault.at TooLarge else fault)

-- the first broken rule over the first bytes of an input
unfoldable pub fault_within : ℕ → List ℕ → Option Fault
fault_within limit input =
    if nat_lt limit (length input) then beyond limit (first (tile_rules (take limit input))) else first (tile_rules input)
