-- Values (Mapbox Vector Tile Specification 2.1, 4.1, message Value).
use Rattle.std.specs.Prelude.{◌≡◌, ℕ, ◌≤◌, ◌==◌, not, List, [], ◌∷◌, Some}
use Rattle.std.specs.Int.{w64, cast_signed}
use Rattle.std.specs.List.{AllByRecursion}
use Rattle.mvt_attrs.specs.Values.{Value}
use Rattle.mvt_attrs.specs.declared.value.ValueOf.TheVariants.{Text, Float, Double, Int, Uint, Sint, Bool as Truth}
use Rattle.mvt_wire.specs.Field.{Content, varint, fixed64, bytes, fixed32, Entry}
use Rattle.mvt_wire.specs.Split.{Whole}
use Rattle.mvt_wire.specs.Zigzag.{zig}
use Rattle.mvt_feature.specs.declared.numbers.value.TheConstants.{STRING, FLOAT, DOUBLE, INT, UINT, SINT, BOOL}
use Rattle.mvt_feature.specs.Forms.{Form, any_varint, float, double, string, HaveForms}
use Rattle.mvt_feature.specs.Selection.{last_only}

-- the kinds of value, each by the number of its field and its form
abbrev pub value_forms : List (ℕ × Form)
value_forms =
    (STRING, string)
    ∷ ((FLOAT, float)
    ∷ ((DOUBLE, double)
    ∷ ((INT, any_varint) ∷ ((UINT, any_varint) ∷ ((SINT, any_varint) ∷ ((BOOL, any_varint) ∷ []))))))

-- a number of one of the seven kinds
abbrev pub IsKind : ℕ → Type 0
IsKind number = (STRING ≤ number) × (number ≤ BOOL)

-- what a field of this number and content says
abbrev pub Means : ℕ → Content → Value → Type 0
Means number (bytes d) (Text text) = (number ≡ STRING) × (text ≡ d)
Means number (fixed32 n) (Float bits) = (number ≡ FLOAT) × (bits ≡ n)
Means number (fixed64 n) (Double bits) = (number ≡ DOUBLE) × (bits ≡ n)
Means number (varint n) (Int z) = (number ≡ INT) × (z ≡ cast_signed w64 n)
Means number (varint n) (Uint m) = (number ≡ UINT) × (m ≡ n)
Means number (varint n) (Sint z) = (number ≡ SINT) × (zig z ≡ n)
Means number (varint n) (Truth b) = (number ≡ BOOL) × (b ≡ not (n == 0))
Means _ _ _ = ⊥

-- fields that are one value: one of the seven kinds occurs, and its last field says the value
pub record IsValue (fields : List Entry) (value : Value) : Type 0 where
  pub forms : HaveForms value_forms fields
  pub kind : ℕ
  pub one : AllByRecursion (λ (x : Entry). IsKind x.number → x.number ≡ kind) fields
  pub last : Entry
  pub is_last : last_only kind fields ≡ Some last
  pub means : Means kind last.content value

-- a payload that is this value
abbrev pub IsValueOf : List ℕ → Value → Type 0
IsValueOf payload value = (fields : List Entry) × Whole payload fields × IsValue fields value
