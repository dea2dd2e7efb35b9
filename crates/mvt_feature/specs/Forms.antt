-- The forms of fields (Mapbox Vector Tile Specification 2.1, 4.1: their types), and the rules that say the
-- same.
use Rattle.std.specs.Prelude.{◌≡◌, ℕ, ◌+◌, ◌^◌, ◌<◌, ◌≤◌, ◌==◌, true, not, nat_lt, nat_le, List, [], ◌∷◌, IsUtf8, ⊤, if◌then◌else◌}
use Rattle.std.specs.List.{AllByRecursion}
use Rattle.std.specs.Str.{is_utf8}
use Rattle.mvt_base.specs.Rules.{Rules, when, map_faults}
use Rattle.mvt_wire.specs.Field.{Content, varint, fixed64, bytes, fixed32, Entry}
use Rattle.mvt_feature.specs.declared.cause.Cause.{Cause}
use Rattle.mvt_feature.specs.declared.cause.Cause.TheVariants.{WrongType, NumberRange, NotUtf8, GeomType}
use Rattle.mvt_feature.specs.Faults.{MessageFault, fault_at}
use Rattle.mvt_feature.specs.Selection.{HaveForm}

-- a varint of 64 bits has one form, whatever it says: int64, uint64, sint64 or bool
pub data Form : Type 0 where
  any_varint : Form
  uint32 : Form
  geom_type : Form
  float : Form
  double : Form
  string : Form
  message : Form

-- a content of this form
abbrev pub HasForm : Form → Content → Type 0
HasForm any_varint (varint n) = ⊤
HasForm uint32 (varint n) = n < 2 ^ 32
HasForm geom_type (varint n) = n ≤ 3
HasForm float (fixed32 n) = ⊤
HasForm double (fixed64 n) = ⊤
HasForm string (bytes d) = IsUtf8 d
HasForm message (bytes d) = ⊤
HasForm _ _ = ⊥

-- the wire type that is due, and then what it may hold
abbrev pub form_rules : Form → Content → Rules Cause
form_rules any_varint (varint n) = []
form_rules uint32 (varint n) = when (not (nat_lt n (2 ^ 32))) NumberRange
form_rules geom_type (varint n) = when (not (nat_le n 3)) GeomType
form_rules float (fixed32 n) = []
form_rules double (fixed64 n) = []
form_rules string (bytes d) = when (not (is_utf8 d)) NotUtf8
form_rules message (bytes d) = []
form_rules _ _ = when true WrongType

-- each field whose number stands in a list has the form that stands beside it
abbrev pub HaveForms : List (ℕ × Form) → List Entry → Type 0
HaveForms forms fields = AllByRecursion (λ (known : ℕ × Form). HaveForm known.0 (HasForm known.1) fields) forms

-- the rules of a field of this number
abbrev pub number_rules : List (ℕ × Form) → ℕ → Content → Rules Cause
number_rules [] number content = []
number_rules (known ∷ others) number content =
    if number == known.0 then form_rules known.1 content else number_rules others number content

-- this number stands nowhere before in the list
abbrev pub IsFirst : List (ℕ × Form) → ℕ × Form → Type 0
IsFirst forms known = (c : Content) → number_rules forms known.0 c ≡ form_rules known.1 c

-- the rules of a field, told at its place in a payload that begins at `payload_at`
abbrev pub forms_rules : List (ℕ × Form) → ℕ → Entry → Rules MessageFault
forms_rules forms payload_at x = map_faults (fault_at (payload_at + x.at)) (number_rules forms x.number x.content)
