-- Which values and features can be written. Numbers have the range of their fields.
use Rattle.std.specs.Prelude.{◌^◌, ◌<◌, ⊤, IfSome, IsUtf8, FitsSigned}
use Rattle.std.specs.Int.{w64}
use Rattle.std.specs.List.{AllByRecursion}
use Rattle.mvt_attrs.specs.Values.{Value}
use Rattle.mvt_attrs.specs.declared.value.ValueOf.TheVariants.{Text, Float, Double, Int, Uint, Sint, Bool as Truth}
use Rattle.mvt_attrs.specs.declared.value.Attribute.{Attribute}
use Rattle.mvt_attrs.specs.Tags.{HasDistinctKeys}
use Rattle.mvt_geometry.specs.Valid.{IsValid}
use Rattle.mvt_feature.specs.declared.feature.Feature.{Feature}

abbrev pub ValidValue : Value → Type 0
ValidValue (Text text) = IsUtf8 text
ValidValue (Float bits) = bits < 2 ^ 32
ValidValue (Double bits) = bits < 2 ^ 64
ValidValue (Int z) = FitsSigned w64 z
ValidValue (Uint n) = n < 2 ^ 64
ValidValue (Sint z) = FitsSigned w64 z
ValidValue (Truth b) = ⊤

abbrev pub ValidAttribute : Attribute → Type 0
ValidAttribute a = IsUtf8 a.key × ValidValue a.value

pub record ValidFeature (f : Feature) : Type 0 where
  pub id : IfSome f.id (λ n. n < 2 ^ 64)
  pub attributes : AllByRecursion ValidAttribute f.attributes
  pub distinct : HasDistinctKeys f.attributes
  pub drawn : IsValid f.geometry
