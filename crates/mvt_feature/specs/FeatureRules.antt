-- The rules that bind a feature's payload (Mapbox Vector Tile Specification 2.1, 4.2 to 4.4), as a table.
use Rattle.std.specs.Prelude.{ℕ, ◌+◌, ◌^◌, true, not, ◌==◌, nat_lt, List, [], ◌∷◌, Option, if◌then◌else◌}
use Rattle.std.specs.List.{flat_map}
use Rattle.mvt_base.specs.Rules.{Rules, when, under, map_faults, rows, each, first}
use Rattle.mvt_attrs.specs.Values.{Value}
use Rattle.mvt_attrs.specs.declared.resolving.TagCause.{TagCause}
use Rattle.mvt_attrs.specs.TagRules.{count_rules, pair_rules}
use Rattle.mvt_geometry.specs.declared.shape.Kind.{Kind}
use Rattle.mvt_geometry.specs.Table.{IndexedCause, geometry_rules}
use Rattle.mvt_wire.specs.Field.{Content, varint, bytes, Entry}
use Rattle.mvt_wire.specs.Packed.{packed, packed_rules}
use Rattle.mvt_wire.specs.Split.{split}
use Rattle.mvt_feature.specs.declared.numbers.feature.TheConstants.{TAGS, TYPE, GEOMETRY}
use Rattle.mvt_feature.specs.declared.cause.Cause.{Cause}
use Rattle.mvt_feature.specs.declared.cause.Cause.TheVariants.{WrongType, NumberRange}
use Rattle.mvt_feature.specs.Causes.{of_packed, of_tag, of_geometry}
use Rattle.mvt_feature.specs.Faults.{MessageFault, fault_at, rest_rules}
use Rattle.mvt_feature.specs.Features.{feature_forms, number_in, kind_of_type}
use Rattle.mvt_feature.specs.Forms.{number_rules}
use Rattle.mvt_feature.specs.Selection.{only, last_only}

-- the numbers of a field, and of fields, joined
abbrev pub numbers_of : Content → List ℕ
numbers_of (varint n) = n ∷ []
numbers_of (bytes d) = (packed d).numbers
numbers_of _ = []

-- the numbers of a repeated field, in whatever pieces they came
abbrev pub joined : ℕ → List Entry → List ℕ
joined k fields = flat_map (λ (x : Entry). numbers_of x.content) (only k fields)

-- a list: its form, and then each of its numbers
abbrev pub list_rules : Content → Rules Cause
list_rules (varint n) = under 1 (under 0 (when (not (nat_lt n (2 ^ 32))) NumberRange))
list_rules (bytes d) = under 1 (map_faults of_packed (packed_rules d))
list_rules _ = under 0 (when true WrongType)

-- a field of this number
abbrev pub feature_form_rules : ℕ → Content → Rules Cause
feature_form_rules number content =
    if number == TAGS then list_rules content
    else if number == GEOMETRY then list_rules content
    else under 0 (number_rules feature_forms number content)

unfoldable pub feature_field_rules : ℕ → Entry → Rules MessageFault
feature_field_rules payload_at x = map_faults (fault_at (payload_at + x.at)) (feature_form_rules x.number x.content)

-- the faults of tags and of integers, which are told by their index
abbrev pub tag_reported : ℕ × TagCause → MessageFault
tag_reported fault = fault_at fault.0 (of_tag fault.1)

abbrev pub geometry_reported : IndexedCause → MessageFault
geometry_reported fault = fault_at fault.0 (of_geometry fault.1)

-- the type of a feature's geometry
abbrev pub kind_in : List Entry → Kind
kind_in fields = kind_of_type (number_in (last_only TYPE fields))

-- the rules of a feature whose payload begins at `payload_at`, in a layer with these keys and values
abbrev pub feature_table : List ℕ → ℕ → List (List ℕ) → List Value → List (ℕ × Rules MessageFault)
feature_table payload payload_at keys values =
    (0, rest_rules payload_at (split payload))
    ∷ ((1, each (λ _. feature_field_rules payload_at) [] (split payload).fields)
    ∷ ((2, map_faults tag_reported (count_rules (joined TAGS (split payload).fields)))
    ∷ ((3, map_faults tag_reported (pair_rules keys values (joined TAGS (split payload).fields)))
    ∷ ((4, map_faults geometry_reported (geometry_rules (kind_in (split payload).fields) (joined GEOMETRY (split payload).fields))) ∷ []))))

unfoldable pub feature_rules : List ℕ → ℕ → List (List ℕ) → List Value → Rules MessageFault
feature_rules payload payload_at keys values = rows (feature_table payload payload_at keys values)

-- the broken rule of least rank
unfoldable pub feature_fault : List ℕ → ℕ → List (List ℕ) → List Value → Option MessageFault
feature_fault payload payload_at keys values = first (feature_rules payload payload_at keys values)
