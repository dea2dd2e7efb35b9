-- Values (4.1, message Value): seven kinds, each with values of its own.
use Rattle.std.specs.Prelude.{Bool, List, ℕ, false, not, ◌==◌, ◌≤◌, length, bytes_eq, if◌then◌else◌, ⊤}
use Rattle.std.specs.Ordering.{int_eq}
use Rattle.mvt_attrs.specs.declared.value.ValueOf.{ValueOf}
use Rattle.mvt_attrs.specs.declared.value.ValueOf.TheVariants.{Text, Float, Double, Int, Uint, Sint, Bool as Truth}

-- a value, whether it keeps its text or is lent it
abbrev pub Value : Type 0
Value = ValueOf (List ℕ)

-- the test of equality of values: of one kind, with one content
abbrev pub equal_values : Value → Value → Bool
equal_values (Text a) (Text b) = bytes_eq a b
equal_values (Float a) (Float b) = a == b
equal_values (Double a) (Double b) = a == b
equal_values (Int a) (Int b) = int_eq a b
equal_values (Uint a) (Uint b) = a == b
equal_values (Sint a) (Sint b) = int_eq a b
equal_values (Truth a) (Truth b) = if a then b else not b
equal_values _ _ = false

-- a value without memory of its own: any but a long text
abbrev pub LiesInPlace : Value → Type 0
LiesInPlace (Text text) = length text ≤ 14
LiesInPlace _ = ⊤
