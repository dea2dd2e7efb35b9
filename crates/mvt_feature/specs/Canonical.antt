-- The fields that are written for a value and for a feature (Mapbox Vector Tile Specification 2.1, 4.1),
-- in their order. They are spelled in the shortest way, by `spelled`.
use Rattle.std.specs.Prelude.{ℕ, List, [], ◌∷◌, ◌++◌, Option, Some, None, if◌then◌else◌}
use Rattle.std.specs.Int.{w64, cast_unsigned}
use Rattle.mvt_attrs.specs.Values.{Value}
use Rattle.mvt_attrs.specs.declared.value.ValueOf.TheVariants.{Text, Float, Double, Int, Uint, Sint, Bool as Truth}
use Rattle.mvt_geometry.specs.declared.shape.Kind.{Kind}
use Rattle.mvt_geometry.specs.declared.shape.Kind.TheVariants as kinds
use Rattle.mvt_geometry.specs.Drawing.{drawn}
use Rattle.mvt_geometry.specs.Shape.{kind_of}
use Rattle.mvt_wire.specs.Field.{Content, varint, fixed64, bytes, fixed32}
use Rattle.mvt_wire.specs.Spelling.{Plain, short_numbers}
use Rattle.mvt_wire.specs.Zigzag.{zig}
use Rattle.mvt_feature.specs.declared.numbers.feature.TheConstants.{ID, TAGS, TYPE, GEOMETRY}
use Rattle.mvt_feature.specs.declared.numbers.value.TheConstants.{STRING, FLOAT, DOUBLE, INT, UINT, SINT, BOOL}
use Rattle.mvt_feature.specs.declared.feature.Feature.{Feature}

-- a field of this number and content
abbrev pub plain : ℕ → Content → Plain
plain number content = record { number = number; content = content }

-- the one field of a value
abbrev pub field_of_value : Value → Plain
field_of_value (Text text) = plain STRING (bytes text)
field_of_value (Float bits) = plain FLOAT (fixed32 bits)
field_of_value (Double bits) = plain DOUBLE (fixed64 bits)
field_of_value (Int z) = plain INT (varint (cast_unsigned w64 z))
field_of_value (Uint n) = plain UINT (varint n)
field_of_value (Sint z) = plain SINT (varint (zig z))
field_of_value (Truth b) = plain BOOL (varint (if b then 1 else 0))

-- the one field of a value's payload
abbrev pub value_fields : Value → List Plain
value_fields value = field_of_value value ∷ []

-- the id, where there is one
abbrev pub id_fields : Option ℕ → List Plain
id_fields None = []
id_fields (Some n) = plain ID (varint n) ∷ []

-- the tags, packed in one piece, where there are some
abbrev pub tags_fields : List ℕ → List Plain
tags_fields [] = []
tags_fields (tag ∷ tags) = plain TAGS (bytes (short_numbers (tag ∷ tags))) ∷ []

-- the standard's numbers of geometry types (4.3.4)
abbrev pub type_number : Kind → ℕ
type_number kinds.Unknown = 0
type_number kinds.Point = 1
type_number kinds.LineString = 2
type_number kinds.Polygon = 3

-- the type
abbrev pub type_fields : Kind → List Plain
type_fields kind = plain TYPE (varint (type_number kind)) ∷ []

-- the type, and the integers packed in one piece
abbrev pub drawing_fields : Kind → List ℕ → List Plain
drawing_fields kind integers = type_fields kind ++ plain GEOMETRY (bytes (short_numbers integers)) ∷ []

-- the fields of a feature with these tags
abbrev pub feature_fields : List ℕ → Feature → List Plain
feature_fields tags f =
    id_fields f.id ++ (tags_fields tags ++ drawing_fields (kind_of f.geometry) (drawn f.geometry))
