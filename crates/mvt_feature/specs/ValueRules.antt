-- The rules that bind a value's payload (Mapbox Vector Tile Specification 2.1, 4.1, message Value), as a
-- table.
use Rattle.std.specs.Prelude.{ℕ, Bool, false, not, ◌&&◌, ◌==◌, nat_le, List, [], ◌∷◌, filter, Option}
use Rattle.std.specs.List.{list_all}
use Rattle.mvt_base.specs.Rules.{Rules, when, rows, each, first}
use Rattle.mvt_wire.specs.Field.{Entry}
use Rattle.mvt_wire.specs.Split.{split}
use Rattle.mvt_feature.specs.declared.numbers.value.TheConstants.{STRING, BOOL}
use Rattle.mvt_feature.specs.declared.cause.Cause.TheVariants.{ValueKind}
use Rattle.mvt_feature.specs.Faults.{MessageFault, fault_at, rest_rules}
use Rattle.mvt_feature.specs.Forms.{forms_rules}
use Rattle.mvt_feature.specs.Values.{value_forms}

-- a field of one of the kinds has the form of its kind
unfoldable pub value_field_rules : ℕ → Entry → Rules MessageFault
value_field_rules payload_at x = forms_rules value_forms payload_at x

-- the fields of the seven kinds
abbrev pub is_kind : Entry → Bool
is_kind x = nat_le STRING x.number && nat_le x.number BOOL

-- the fields that have one of a value's kinds (4.1)
abbrev pub kinds : List Entry → List Entry
kinds xs = filter is_kind xs

-- one kind occurs: a field is there, and all have the number of the first
abbrev pub are_one_kind : List Entry → Bool
are_one_kind [] = false
are_one_kind (x ∷ xs) = list_all (λ (y : Entry). y.number == x.number) xs

-- the rules of a value whose payload begins at `payload_at`, and whose tag stands at `tag_at`
abbrev pub value_table : List ℕ → ℕ → ℕ → List (ℕ × Rules MessageFault)
value_table payload payload_at tag_at =
    (0, rest_rules payload_at (split payload))
    ∷ ((1, each (λ _. value_field_rules payload_at) [] (split payload).fields)
    ∷ ((2, when (not (are_one_kind (kinds (split payload).fields))) (fault_at tag_at ValueKind)) ∷ []))

unfoldable pub value_rules : List ℕ → ℕ → ℕ → Rules MessageFault
value_rules payload payload_at tag_at = rows (value_table payload payload_at tag_at)

-- the broken rule of least rank
unfoldable pub value_fault : List ℕ → ℕ → ℕ → Option MessageFault
value_fault payload payload_at tag_at = first (value_rules payload payload_at tag_at)
