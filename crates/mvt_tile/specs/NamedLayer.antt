-- The first layer of a name, whatever the other layers are.
use Rattle.std.specs.Prelude.{◌≡◌, ℕ, ◌+◌, ◌≤◌, ◌==◌, ◌&&◌, Bool, List, [], ◌∷◌, length, filter, nat_lt, bytes_eq, Option, Some, None, if◌then◌else◌}
use Rattle.std.specs.List.{list_any}
use Rattle.std.specs.Option.{option_map}
use Rattle.mvt_base.specs.Rules.{first}
use Rattle.mvt_wire.specs.Field.{Entry}
use Rattle.mvt_wire.specs.Split.{split}
use Rattle.mvt_feature.specs.declared.cause.Cause.TheVariants.{TooLarge}
use Rattle.mvt_message.specs.declared.item.Item.{Item}
use Rattle.mvt_message.specs.ItemRules.{item_fault, payload_names}
use Rattle.mvt_message.specs.Items.{IsItem, names_in}
use Rattle.mvt_tile_value.specs.declared.numbers.tile.TheConstants.{LAYERS}
use Rattle.mvt_tile.specs.declared.fault.Fault.{Fault}
use Rattle.mvt_tile.specs.Faults.{outer_fault, in_layer}
use Rattle.mvt_tile.specs.TileRules.{payload_of, rest_rules}

-- a field that holds a layer of version 2 of this name, which may be broken
abbrev pub is_layer_of : List ℕ → Entry → Bool
is_layer_of name x = (x.number == LAYERS) && list_any (bytes_eq name) (payload_names (payload_of x))

-- the first of these, with its index among the layers, where so many stand before
abbrev pub first_of : List ℕ → ℕ → List Entry → Option (ℕ × Entry)
first_of name count [] = None
first_of name count (x ∷ xs) =
    if is_layer_of name x then Some (count, x) else first_of name (if x.number == LAYERS then count + 1 else count) xs

abbrev pub first_in : List ℕ → List ℕ → Option (ℕ × Entry)
first_in name input = first_of name 0 (split input).fields

-- why it can't be read: its own fault, or where there is none of that name that of bytes which are no fields
abbrev pub fault_in : List ℕ → Option (ℕ × Entry) → Option Fault
fault_in input None = first (rest_rules (split input))
fault_in input (Some (index, x)) = option_map (in_layer index) (item_fault (payload_of x) x.body x.at)

abbrev pub named_fault : ℕ → List ℕ → List ℕ → Option Fault
named_fault limit name input =
    if nat_lt limit (length input) then Some (outer_fault limit TooLarge) else fault_in input (first_in name input)

-- the first layer of this name is this item
abbrev pub IsFirst : List ℕ → List ℕ → Item → Type 0
IsFirst name input item = (found : ℕ × Entry) × (first_in name input ≡ Some found) × IsItem (payload_of found.1) item

-- the items that are layers of this name
abbrev pub named_in : List ℕ → List Item → List Item
named_in name items = filter (λ (item : Item). list_any (bytes_eq name) (names_in item)) items

-- the payload of the first layer of this name, with its index and its places
abbrev pub IsFoundAt : List ℕ → List ℕ → ℕ → List ℕ → ℕ → ℕ → Type 0
IsFoundAt name input index payload payload_at tag_at =
    (x : Entry) × (first_in name input ≡ Some (index, x)) × (payload ≡ payload_of x) × (payload_at ≡ x.body) × (tag_at ≡ x.at)
    × (payload_at + length payload ≤ length input)
