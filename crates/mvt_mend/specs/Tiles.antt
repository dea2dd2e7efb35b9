-- A tile's bytes mended (Mapbox Vector Tile Specification 2.1, 4.1).
use Rattle.std.specs.Prelude.{ℕ, ◌+◌, ◌==◌, ◌&&◌, ◌≡◌, ⊤, nat_le, nat_lt, not, Bool, true, if◌then◌else◌, List, [], ◌∷◌, ◌++◌, length, map}
use Rattle.std.specs.List.{list_any}
use Rattle.mvt_base.specs.declared.TheConstants.{LIMIT}
use Rattle.mvt_wire.specs.Field.{Content, varint, fixed64, bytes, fixed32, Entry}
use Rattle.mvt_wire.specs.Packed.{is_nil}
use Rattle.mvt_wire.specs.Spelling.{Plain, spelled}
use Rattle.mvt_wire.specs.Split.{split}
use Rattle.mvt_feature.specs.Canonical.{plain}
use Rattle.mvt_message.specs.declared.numbers.layer.TheConstants.{FEATURES}
use Rattle.mvt_message.specs.ItemRules.{payload_names}
use Rattle.mvt_tile_value.specs.declared.numbers.tile.TheConstants.{LAYERS}
use Rattle.mvt_mend.specs.declared.change.Change.{Change}
use Rattle.mvt_rings.specs.declared.steps.Ended.{Ended}
use Rattle.mvt_rings.specs.declared.steps.Ended.TheVariants.{Memory, Steps}
use Rattle.mvt_mend.specs.declared.change.Unmended.{Unmended}
use Rattle.mvt_mend.specs.declared.change.Unmended.TheVariants.{TooManySteps, AnotherRule}
use Rattle.mvt_mend.specs.declared.geometry.TheConstants.{MOST_STEPS}
use Rattle.mvt_mend.specs.Changes.{first_cause}
use Rattle.mvt_mend.specs.Features.{feature_cause, feature_changes, feature_steps, mended_feature}

-- the fields of payloads
abbrev pub payload_fields : ℕ → List (List ℕ) → List Plain
payload_fields number payloads = map (λ payload. plain number (bytes payload)) payloads

-- the payloads that stand in place of that of a field; a number stays
abbrev pub fields_as : (List ℕ → List (List ℕ)) → ℕ → Content → List Plain
fields_as mend number (varint n) = plain number (varint n) ∷ []
fields_as mend number (fixed64 n) = plain number (fixed64 n) ∷ []
fields_as mend number (bytes d) = payload_fields number (mend d)
fields_as mend number (fixed32 n) = plain number (fixed32 n) ∷ []

-- a field, which is mended if it has this number
abbrev pub field_as : (List ℕ → List (List ℕ)) → ℕ → Entry → List Plain
field_as mend number x = if x.number == number then fields_as mend number x.content else plain x.number x.content ∷ []

-- fields, of which those of a number are mended
abbrev pub fields_with : (List ℕ → List (List ℕ)) → ℕ → List Entry → List Plain
fields_with mend number [] = []
fields_with mend number (x ∷ xs) = field_as mend number x ++ fields_with mend number xs

-- what is changed of a field's payload
abbrev pub told_at : (List ℕ → List Change) → Content → List Change
told_at told (varint n) = []
told_at told (fixed64 n) = []
told_at told (bytes d) = told d
told_at told (fixed32 n) = []

-- what is changed of the fields of a number, which are counted from this index on
abbrev pub changes_from : (ℕ → List ℕ → List Change) → ℕ → ℕ → List Entry → List Change
changes_from told number n [] = []
changes_from told number n (x ∷ xs) =
    if x.number == number then told_at (told n) x.content ++ changes_from told number (n + 1) xs else changes_from told number n xs

-- bytes are fields and nothing else
abbrev pub is_whole : List ℕ → Bool
is_whole b = is_nil (split b).rest

-- a layer of version 2 that has a name
unfoldable pub is_layer : List ℕ → Bool
is_layer payload = list_any (λ name. true) (payload_names payload) && is_whole payload

-- why a field isn't mended, where it isn't
abbrev pub cause_at : (List ℕ → Unmended) → Content → Unmended
cause_at cause (varint n) = AnotherRule
cause_at cause (fixed64 n) = AnotherRule
cause_at cause (bytes d) = cause d
cause_at cause (fixed32 n) = AnotherRule

-- the first cause, after another, that says more than that another rule is broken
abbrev pub cause_from : (ℕ → List ℕ → Unmended) → ℕ → ℕ → Unmended → List Entry → Unmended
cause_from cause number n before [] = before
cause_from cause number n before (x ∷ xs) =
    if x.number == number then cause_from cause number (n + 1) (first_cause before (cause_at (cause n) x.content)) xs
    else cause_from cause number n before xs

-- the steps that a field takes
abbrev pub steps_at : (List ℕ → ℕ) → Content → ℕ
steps_at steps (varint n) = 0
steps_at steps (fixed64 n) = 0
steps_at steps (bytes d) = steps d
steps_at steps (fixed32 n) = 0

-- and all fields of a number
abbrev pub steps_in : (List ℕ → ℕ) → ℕ → List Entry → ℕ
steps_in steps number [] = 0
steps_in steps number (x ∷ xs) = (if x.number == number then steps_at steps x.content else 0) + steps_in steps number xs

-- a layer with its features mended
unfoldable pub mended_layer : List ℕ → List ℕ
mended_layer payload = if is_layer payload then spelled (fields_with mended_feature FEATURES (split payload).fields) else payload

unfoldable pub layer_changes : ℕ → List ℕ → List Change
layer_changes n payload = if is_layer payload then changes_from (feature_changes n) FEATURES 0 (split payload).fields else []

-- the first cause in a layer
unfoldable pub layer_cause : ℕ → List ℕ → Unmended
layer_cause n payload =
    if is_layer payload then cause_from (feature_cause n) FEATURES 0 AnotherRule (split payload).fields else AnotherRule

-- the steps that telling the rings of a layer takes
unfoldable pub layer_steps : List ℕ → ℕ
layer_steps payload = if is_layer payload then steps_in feature_steps FEATURES (split payload).fields else 0

-- bytes within the limit that are fields and nothing else
abbrev pub has_layers : List ℕ → Bool
has_layers input = nat_le (length input) LIMIT && is_whole input

-- the steps that telling the rings of a tile takes
unfoldable pub tile_steps : List ℕ → ℕ
tile_steps input = if has_layers input then steps_in layer_steps LAYERS (split input).fields else 0

-- they are too many
unfoldable pub is_long_winded : List ℕ → Bool
is_long_winded input = nat_lt MOST_STEPS (tile_steps input)

-- why nothing is told of a tile: memory, or too many steps
abbrev pub StopsMending : Ended → List ℕ → Type 0
StopsMending Memory input = ⊤
StopsMending Steps input = is_long_winded input ≡ true

-- what is changed of a tile, unless that takes too many steps
unfoldable pub changes_in : List ℕ → List Change
changes_in input =
    if has_layers input && not (is_long_winded input) then changes_from layer_changes LAYERS 0 (split input).fields else []

-- why a tile that breaks a rule isn't mended
unfoldable pub cause_in : List ℕ → Unmended
cause_in input =
    if has_layers input then
    (if is_long_winded input then TooManySteps else cause_from layer_cause LAYERS 0 AnotherRule (split input).fields)
    else AnotherRule

abbrev pub as_layer : List ℕ → List (List ℕ)
as_layer payload = mended_layer payload ∷ []

abbrev pub mended_by : List ℕ → List Change → List ℕ
mended_by input [] = input
mended_by input (change ∷ changes) = spelled (fields_with as_layer LAYERS (split input).fields)

-- a tile with its layers mended; the same bytes where nothing is changed
unfoldable pub mended : List ℕ → List ℕ
mended input = mended_by input (changes_in input)
