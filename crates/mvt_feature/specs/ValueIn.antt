-- The value of a payload as a function (Mapbox Vector Tile Specification 2.1, 4.1, message Value).
use Rattle.std.specs.Prelude.{ℕ, ◌==◌, not, List, Option, Some, None, option_and_then, if◌then◌else◌}
use Rattle.std.specs.Int.{w64, cast_signed}
use Rattle.std.specs.List.{last_or}
use Rattle.mvt_attrs.specs.Values.{Value}
use Rattle.mvt_attrs.specs.declared.value.ValueOf.TheVariants.{Text, Float, Double, Int, Uint, Sint, Bool as Truth}
use Rattle.mvt_wire.specs.Field.{Content, varint, fixed64, bytes, fixed32, Entry}
use Rattle.mvt_wire.specs.Split.{split}
use Rattle.mvt_wire.specs.Zigzag.{unzig}
use Rattle.mvt_feature.specs.declared.numbers.value.TheConstants.{STRING, FLOAT, DOUBLE, INT, UINT, SINT, BOOL}
use Rattle.mvt_feature.specs.ValueRules.{kinds}

-- what a field of this number and content says, where it is one of the kinds of value
abbrev pub said : ℕ → Content → Option Value
said number (bytes d) = if number == STRING then Some (Text d) else None
said number (fixed32 n) = if number == FLOAT then Some (Float n) else None
said number (fixed64 n) = if number == DOUBLE then Some (Double n) else None
said number (varint n) =
    if number == INT then Some (Int (cast_signed w64 n))
    else if number == UINT then Some (Uint n)
    else if number == SINT then Some (Sint (unzig n))
    else if number == BOOL then Some (Truth (not (n == 0)))
    else None

-- the value of a payload that is one: what the last field of a kind says
unfoldable pub value_in : List ℕ → Option Value
value_in payload = option_and_then (λ (x : Entry). said x.number x.content) (last_or None (kinds (split payload).fields))
