-- What the fields of a layer say (Mapbox Vector Tile Specification 2.1, 4.1, message Layer).
use Rattle.std.specs.Prelude.{ℕ, ◌==◌, Bool, false, List, [], ◌∷◌, map, Option, Some, None, unwrap_or}
use Rattle.std.specs.List.{flat_map}
use Rattle.std.specs.Option.{option_map, option_to_list}
use Rattle.mvt_attrs.specs.Values.{Value}
use Rattle.mvt_wire.specs.Field.{Content, bytes, Entry}
use Rattle.mvt_feature.specs.Features.{number_in}
use Rattle.mvt_feature.specs.Forms.{Form, uint32, string, message}
use Rattle.mvt_feature.specs.Selection.{only, last_only}
use Rattle.mvt_feature.specs.ValueIn.{value_in}
use Rattle.mvt_message.specs.declared.numbers.layer.TheConstants.{NAME, FEATURES, KEYS, VALUES, EXTENT, VERSION}

-- the version, which is read first, and the other fields, each by its number and its form
abbrev pub version_forms : List (ℕ × Form)
version_forms = (VERSION, uint32) ∷ []

-- the fields of a layer and their forms (4.1)
abbrev pub layer_forms : List (ℕ × Form)
layer_forms =
    (NAME, string) ∷ ((FEATURES, message) ∷ ((KEYS, string) ∷ ((VALUES, message) ∷ ((EXTENT, uint32) ∷ []))))

-- the bytes of a field
abbrev pub bytes_of : Content → List ℕ
bytes_of (bytes d) = d
bytes_of _ = []

-- the version that counts
abbrev pub version_in : List Entry → Option ℕ
version_in fields = number_in (last_only VERSION fields)

-- a layer is read where that is 2
abbrev pub is_two : Option ℕ → Bool
is_two None = false
is_two (Some n) = n == 2

-- the name that counts
abbrev pub name_in : List Entry → Option (List ℕ)
name_in fields = option_map (λ (x : Entry). bytes_of x.content) (last_only NAME fields)

-- the extent that counts, or the default
abbrev pub extent_in : List Entry → ℕ
extent_in fields = unwrap_or (number_in (last_only EXTENT fields)) 4096

-- the keys of a layer, in their order
abbrev pub keys_in : List Entry → List (List ℕ)
keys_in fields = map (λ (x : Entry). bytes_of x.content) (only KEYS fields)

-- the payloads of the features of a layer, in their order
abbrev pub payloads_in : List Entry → List (List ℕ)
payloads_in fields = map (λ (x : Entry). bytes_of x.content) (only FEATURES fields)

-- the values of a layer, in their order
abbrev pub values_in : List Entry → List Value
values_in fields = flat_map (λ (x : Entry). option_to_list (value_in (bytes_of x.content))) (only VALUES fields)
